-- The diagram of a tree is the one that its view shows.
use Rattle.std.proofs.Common.{◌≡◌, List, refl, ap, ◌∙◌}
use Rattle.pep508_tree.specs.Tree.{Tree, always, never}
use Rattle.pep508_tree.specs.Meaning.{NodeRecord, diagram_of, IsTree}
use Rattle.pep508_tree.specs.Nodes.{AreSound}
use Rattle.pep508_tree.proofs.Diagrams.{diagram_top}
use Rattle.pep508_evaluation.proofs.Rooted.{root_diagram}
use Rattle.pep508_view.specs.declared.kind.MarkerTreeKind.{MarkerTreeKind}
use Rattle.pep508_view.specs.declared.kind.MarkerTreeKind.TheVariants as kind
use Rattle.pep508_view.specs.Views.{version_node, text_node, in_node, contains_node, extra_node, IsKind}
use Rattle.pep508_view.specs.Shown.{kind_diagram}

module _ (nodes : List NodeRecord) (sound : AreSound nodes) (tree : Tree) (made : IsTree nodes tree) where
  pub diagram_shown : (kind : MarkerTreeKind) → IsKind nodes tree kind →
      diagram_of nodes tree ≡ kind_diagram (diagram_of nodes) kind
  diagram_shown kind.True is = ap (diagram_of nodes) is ∙ diagram_top nodes always refl
  diagram_shown kind.False is = ap (diagram_of nodes) is ∙ diagram_top nodes never refl
  diagram_shown (kind.Version view) is = root_diagram nodes sound tree made (version_node view) is.1
  diagram_shown (kind.String view) is = root_diagram nodes sound tree made (text_node view) is.1
  diagram_shown (kind.In view) is = root_diagram nodes sound tree made (in_node view) is.1
  diagram_shown (kind.Contains view) is = root_diagram nodes sound tree made (contains_node view) is.1
  diagram_shown (kind.Extra view) is = root_diagram nodes sound tree made (extra_node view) is.1
