use Rattle.std.proofs.Common.{◌≡◌, length, take}
use Rattle.pep508_tree.specs.Conjunctions.{Meet}
use Rattle.pep508_simplification.specs.Named.{IsNamed}
use Rattle.pep508_simplification.proofs.extras_walk.next_unknown.Given as goal

abbrev pub invariant-loop-index : goal.invariant-loop-index
invariant-loop-index g l = record {
  counts : l.index ≡ length l.trees.items;
  met : Meet (IsNamed (goal.F-post g l.predicate) l.interner.nodes l.interner.nodes)
      (take (length l.trees.items) l.children) l.trees.items;
}
