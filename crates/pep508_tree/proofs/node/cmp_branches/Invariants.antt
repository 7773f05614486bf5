use Rattle.std.proofs.Common.{◌≡◌, length}
use Rattle.std.specs.Cmp.Lexicographic.{slice_cmp}
use Rattle.pep508_tree.specs.Nodes.{branch_cmp}
use Rattle.pep508_tree.proofs.node.cmp_branches.Given as goal

abbrev pub invariant-loop-x : goal.invariant-loop-x
invariant-loop-x g l =
    slice_cmp (branch_cmp g.T.Ord.cmp) l.left l.right ≡ slice_cmp (branch_cmp g.T.Ord.cmp) l.a l.b

abbrev pub decreases-loop-x : goal.decreases-loop-x
decreases-loop-x g l = length l.left
