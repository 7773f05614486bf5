-- A tree with the nodes of its interner, and the order of such trees.
use Rattle.std.specs.Prelude.{List}
use Rattle.std.specs.Ordering.{on}
use Rattle.std.specs.declared.cmp.Ordering.{Ordering}
use Rattle.pep508_diagram.specs.Diagram.{Diagram}
use Rattle.pep508_diagram.specs.Question.{Question}
use Rattle.pep508_tree.specs.Meaning.{NodeRecord, diagram_of}
use Rattle.pep508_tree.specs.Tree.{Tree}
use Rattle.pep508_tree_ref.specs.TreeOrder.{diagram_cmp}

pub record TreeIn : Type 0 where
  pub nodes : List NodeRecord
  pub tree : Tree

-- the diagram of the tree
abbrev pub diagram_in : TreeIn → Diagram Question
diagram_in t = diagram_of t.nodes t.tree

abbrev pub tree_in_cmp : TreeIn → TreeIn → Ordering
tree_in_cmp = on diagram_in diagram_cmp
