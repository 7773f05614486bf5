use Rattle.std.proofs.Common.{◌≡◌}
use Rattle.pep508_tree.specs.Tree.{never}
use Rattle.pep508_tree.specs.Meaning.{Extends}
use Rattle.pep508_leaf_diagram.proofs.Passes.{Each, Says}
use Rattle.pep508_leaf_diagram.proofs.trees.leaf_tree.Given as goal

abbrev pub invariant-loop-node : goal.invariant-loop-node
invariant-loop-node l = record {
  keeps : Extends l.fn.interner.nodes l.interner.nodes;
  counts : l.interner.conjunctions ≡ l.fn.interner.conjunctions;
  each : Each (Says l.interner.nodes l.nodes l.leaf) never l.node-index l.trees.items;
}
