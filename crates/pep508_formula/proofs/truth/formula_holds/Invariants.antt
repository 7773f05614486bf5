use Rattle.std.proofs.Common.{◌≡◌, [], length, reverse}
use Rattle.pep508_formula.specs.Postfix.{parts_in, told}
use Rattle.pep508_formula.proofs.truth.formula_holds.Given as goal

abbrev pub invariant-loop-part : goal.invariant-loop-part
invariant-loop-part g l =
    told (g.T.ExpressionTruth.truth l.truths) (reverse l.stack.items) (parts_in l.left)
    ≡ told (g.T.ExpressionTruth.truth l.truths) [] l.formula

abbrev pub decreases-loop-part : goal.decreases-loop-part
decreases-loop-part g l = length (parts_in l.left)
