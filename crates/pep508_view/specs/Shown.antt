-- The diagram that a view shows.
use Rattle.std.specs.Prelude.{true, false}
use Rattle.pep508_diagram.specs.Diagram.{Diagram, Leaf}
use Rattle.pep508_diagram.specs.Question.{Question}
use Rattle.pep508_tree.specs.Tree.{Tree}
use Rattle.pep508_tree.specs.Meaning.{node_diagram}
use Rattle.pep508_view.specs.declared.kind.MarkerTreeKind.{MarkerTreeKind}
use Rattle.pep508_view.specs.declared.kind.MarkerTreeKind.TheVariants as kind
use Rattle.pep508_view.specs.Views.{version_node, text_node, in_node, contains_node, extra_node}

-- a leaf for a constant, else the questions of the node that is shown, with the diagrams of its subtrees
abbrev pub kind_diagram : (Tree → Diagram Question) → MarkerTreeKind → Diagram Question
kind_diagram at kind.True = Leaf true
kind_diagram at kind.False = Leaf false
kind_diagram at (kind.Version view) = node_diagram at (version_node view)
kind_diagram at (kind.String view) = node_diagram at (text_node view)
kind_diagram at (kind.In view) = node_diagram at (in_node view)
kind_diagram at (kind.Contains view) = node_diagram at (contains_node view)
kind_diagram at (kind.Extra view) = node_diagram at (extra_node view)
