use Rattle.std.proofs.Common.{◌≡◌}
use Rattle.pep508_diagram.specs.Question.{Valuation}
use Rattle.pep508_tree.specs.Meaning.{Extends, holds}
use Rattle.pep508_leaf_diagram.specs.Pairing.{leaf_in}
use Rattle.pep508_leaf_diagram.specs.Trees.{AreLeafTrees}
use Rattle.pep508_cases.specs.Cases.{Marks}
use Rattle.pep508_cases.specs.Collecting.{tree_at, AllMade, reached_by}
use Rattle.pep508_cases.proofs.collecting.found_trees.Given as goal

abbrev pub invariant-loop-leaf : goal.invariant-loop-leaf
invariant-loop-leaf l = record {
  keeps : Extends l.fn.interner.nodes l.interner.nodes;
  counts : l.interner.conjunctions ≡ l.fn.interner.conjunctions;
  made : AllMade l.interner.nodes l.found;
  truth : (q : Marks) (v : Valuation) → holds l.interner.nodes (tree_at l.found q) v
      ≡ reached_by l.marked.sets.items (leaf_in l.fn.interner.nodes l.marked.diagram l.marked.diagram.root v) q l.leaf;
  trees : AreLeafTrees l.interner.nodes (leaf_in l.fn.interner.nodes l.marked.diagram l.marked.diagram.root) 0
      l.trees.items;
}
