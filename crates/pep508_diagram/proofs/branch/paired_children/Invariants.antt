use Rattle.std.proofs.Common.{◌+◌, length}
use Rattle.pep508_diagram.proofs.Pairing.{ChildPassing}
use Rattle.pep508_diagram.proofs.branch.paired_children.Given as goal

abbrev pub invariant-loop-next : goal.invariant-loop-next
invariant-loop-next g l =
    ChildPassing g.T.Ord.cmp l.fn.first l.fn.later l.fn.other_first l.fn.other_later l.child l.left
    l.other_child l.other_left l.pairs.items

abbrev pub decreases-loop-next : goal.decreases-loop-next
decreases-loop-next g l = length l.left + length l.other_left
