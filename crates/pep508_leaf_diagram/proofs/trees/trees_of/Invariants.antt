use Rattle.std.proofs.Common.{◌≡◌, map, take}
use Rattle.pep508_leaf_diagram.specs.Trees.{tree_below}
use Rattle.pep508_leaf_diagram.proofs.trees.trees_of.Given as goal

abbrev pub invariant-loop-child : goal.invariant-loop-child
invariant-loop-child l = l.all.items ≡ map (tree_below l.trees l.leaf) (take l.child-index l.children)
