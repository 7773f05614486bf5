use Rattle.std.proofs.Common.{◌≡◌, map, take}
use Rattle.pep508_tree.specs.Nodes.{turned}
use Rattle.pep508_leaf_diagram.specs.Leaves.{child_of}
use Rattle.pep508_leaf_diagram.proofs.diagram_node.of_trees.Given as goal

abbrev pub invariant-loop-branch : goal.invariant-loop-branch
invariant-loop-branch g l =
    l.branches.items
    ≡ map (λ branch. record { boundary = branch.boundary; child = child_of (turned l.fn.negated branch.child) })
    (take l.branch-index l.later)
