use Rattle.pep508_tree.specs.PairOrder.{places}
use Rattle.pep508_tree.proofs.Walking.{IsWalk, work}
use Rattle.pep508_tree.proofs.conjunction_walk.walked.Given as goal

abbrev pub decreases-loop-top : goal.decreases-loop-top
decreases-loop-top l = work (places l.fn.asked) l.known l.waiting.items

abbrev pub invariant-loop-top : goal.invariant-loop-top
invariant-loop-top l = IsWalk l.fn.table l.table l.known l.fn.asked l.waiting.items l.last
