use Rattle.std.proofs.Common.{[]}
use Rattle.pep508_leaf_diagram.specs.declared.child.Child.TheVariants.{Leaf}
use Rattle.pep508_leaf_diagram.specs.Leaves.{IsGraph}
use Rattle.pep508_leaf_diagram.proofs.Passes.{Each, Narrows}
use Rattle.pep508_leaf_diagram.proofs.narrow.narrowed.Given as goal

abbrev pub invariant-loop-node : goal.invariant-loop-node
invariant-loop-node l = record {
  graph : IsGraph [] l.count l.narrow.items;
  each : Each (Narrows l.count l.nodes l.narrow.items l.leaves) (Leaf l.leaves.other) l.node-index l.children.items;
}
