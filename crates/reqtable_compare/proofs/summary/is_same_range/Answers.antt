use Rattle.std.proofs.Common.{◌↔◌, IsTrue, Some, sym, subst}
use Rattle.reqtable_compare.specs.Summed.{SameRange}
use Rattle.reqtable_compare.proofs.summary.is_same_range.Goals as goal

pub returns-in-Some-b : goal.returns-in-Some-b
returns-in-Some-b c =
    subst (λ o. IsTrue c.eq.result ↔ SameRange o c.args.b.now) (sym c.in-Some.is)
    (subst (λ o. IsTrue c.eq.result ↔ SameRange (Some c.in-Some.ours) o) (sym c.in-Some-b.is) c.eq.ensures.points)
