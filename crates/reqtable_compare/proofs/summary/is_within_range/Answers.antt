use Rattle.std.proofs.Common.{◌↔◌, IfOk, IsTrue, Some, sym, subst}
use Rattle.reqtable_compare.specs.Summed.{WithinRange}
use Rattle.reqtable_compare.proofs.summary.is_within_range.Goals as goal

pub returns-in-Some-b : goal.returns-in-Some-b
returns-in-Some-b c =
    subst (λ o. IfOk c.is_within.result (λ within. IsTrue within ↔ WithinRange o c.args.b.now)) (sym c.in-Some.is)
    (subst (λ o. IfOk c.is_within.result (λ within. IsTrue within ↔ WithinRange (Some c.in-Some.ours) o))
    (sym c.in-Some-b.is) c.is_within.ensures)
