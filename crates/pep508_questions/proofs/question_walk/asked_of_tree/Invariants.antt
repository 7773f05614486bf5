use Rattle.pep508_questions.proofs.Walking.{AreLeft, top}
use Rattle.pep508_questions.proofs.question_walk.asked_of_tree.Given as goal

abbrev pub invariant-loop-next : goal.invariant-loop-next
invariant-loop-next l = AreLeft l.interner.nodes l.fn.tree l.left.entries l.asked

abbrev pub decreases-loop-next : goal.decreases-loop-next
decreases-loop-next l = top l.left.entries
