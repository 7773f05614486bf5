use Rattle.std.proofs.Common.{◌≡◌, List, ℕ, true, subst}
use Rattle.std.specs.List.{list_all}
use Rattle.reqtable_streaming.specs.PlainLines.{is_plain_byte}
use Rattle.reqtable_streaming.proofs.PlainLines.{bare_trimmed}
use Rattle.reqtable_streaming.proofs.plain_lines.plain_word.Goals as goal

pub returns-then-is_plain-clause-word : goal.returns-then-is_plain-clause-word
returns-then-is_plain-clause-word c =
    bare_trimmed c.args.text.now
    (subst (λ (bs : List ℕ). list_all is_plain_byte bs ≡ true) c.as_bytes.ensures.value
    (c.is_plain.ensures.plain c.if-is_plain.true))
