use Rattle.std.proofs.Common.{◌≡◌, length, take}
use Rattle.pep508_tree.specs.Conjunctions.{ArePairs, Meet}
use Rattle.pep508_tree.proofs.conjunction_walk.next_unknown.Given as goal

abbrev pub invariant-loop-index : goal.invariant-loop-index
invariant-loop-index l = record {
  counts : l.index ≡ length l.trees.items;
  met : Meet (ArePairs l.table l.table l.a l.b) (take (length l.trees.items) l.children) l.trees.items;
}
