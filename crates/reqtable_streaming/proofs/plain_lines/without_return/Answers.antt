use Rattle.std.proofs.Common.{◌∙◌, List, ℕ, ap, refl}
use Rattle.std.specs.Borrow.{Bor}
use Rattle.reqtable_candidates.proofs.Comments.{stripped_is}
use Rattle.reqtable_streaming.proofs.plain_lines.without_return.Goals as goal

pub returns : goal.returns
returns c =
    ap (λ (line : Bor (List ℕ)). line.now) c.unwrap_or.ensures ∙ stripped_is c.args.line.now c.strip_suffix.result c.args.line c.strip_suffix.ensures.cases refl
