use Rattle.pep508_evaluation.proofs.Reaching.{AreReached, top}
use Rattle.pep508_evaluation.proofs.holding.can_hold.Given as goal

abbrev pub invariant-loop-latest : goal.invariant-loop-latest
invariant-loop-latest l = AreReached l.interner.nodes l.extras l.fn.tree l.reached.keys

abbrev pub decreases-loop-latest : goal.decreases-loop-latest
decreases-loop-latest l = top l.reached.keys
