use Rattle.std.proofs.Common.{◌≡◌, List, ℕ, true, subst}
use Rattle.std.specs.List.{list_all}
use Rattle.reqtable_streaming.specs.PlainLines.{is_plain_byte}
use Rattle.reqtable_streaming.proofs.PlainLines.{bare_trimmed}
use Rattle.reqtable_streaming.proofs.plain_lines.plain_version.Goals as goal

pub returns-in-Some-clause-version : goal.returns-in-Some-clause-version
returns-in-Some-clause-version c =
    bare_trimmed c.args.text.now
    (subst (λ (bs : List ℕ). list_all is_plain_byte bs ≡ true) c.as_bytes.ensures.value c.in-Some.ensures.plain)
