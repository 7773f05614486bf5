use Rattle.std.proofs.Common.{◌≡◌}
use Rattle.pep508_simplification.proofs.Walking.{IsWalk, work}
use Rattle.pep508_simplification.proofs.extras_walk.walked.Given as goal

abbrev pub decreases-loop-top : goal.decreases-loop-top
decreases-loop-top g l = work l.fn.tree.place l.known l.waiting.items

abbrev pub invariant-loop-top : goal.invariant-loop-top
invariant-loop-top g l =
    IsWalk (goal.F-post g l.predicate) l.fn.interner.nodes l.interner.nodes l.known l.fn.tree l.waiting.items l.last
    × (l.interner.conjunctions ≡ l.fn.interner.conjunctions)
