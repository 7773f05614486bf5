use Rattle.std.proofs.Common.{◌≡◌, map, take}
use Rattle.pep508_leaf_diagram.specs.Trees.{narrow_of}
use Rattle.pep508_leaf_diagram.proofs.narrow.narrow_children.Given as goal

abbrev pub invariant-loop-child : goal.invariant-loop-child
invariant-loop-child l = l.narrow.items ≡ map (narrow_of l.leaves l.children) (take l.child-index l.all)
