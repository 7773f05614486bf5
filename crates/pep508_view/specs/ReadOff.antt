-- A tree read off its views: which subtree decides, which variables the subtrees test, and how edges lie.
use Rattle.std.specs.Prelude.{◌≡◌, ◌<◌, true, false, cond, List, [], ◌∷◌, map}
use Rattle.pep440_version.specs.Order.{version_cmp}
use Rattle.pep508_diagram.specs.declared.variable.Flag.{Flag}
use Rattle.pep508_diagram.specs.declared.variable.Flag.TheVariants.{In, Contains}
use Rattle.pep508_diagram.specs.Text.{text_cmp}
use Rattle.pep508_diagram.specs.Question.{Valuation}
use Rattle.pep508_tree.specs.Tree.{Tree}
use Rattle.pep508_tree.specs.Meaning.{NodeRecord, holds, IsTree}
use Rattle.pep508_tree.specs.Nodes.{Above, first_place}
use Rattle.pep508_view.specs.declared.kind.MarkerTreeKind.{MarkerTreeKind}
use Rattle.pep508_view.specs.declared.kind.MarkerTreeKind.TheVariants as kind
use Rattle.pep508_view.specs.Views.{version_node, text_node, version_edges, text_edges, flag_of}
use Rattle.pep508_view.specs.Reading.{JustOne, SpanAll, LeadApart}

-- under the valuation the tree holds where the subtree does
abbrev pub HoldsAs : List NodeRecord → Valuation → Tree → Tree → Type 0
HoldsAs nodes v tree subtree = holds nodes tree v ≡ holds nodes subtree v

-- the tree holds where the subtree for the flag's truth does
abbrev pub IsDecidedBy : List NodeRecord → Tree → Flag → Tree → Tree → Type 0
IsDecidedBy nodes tree flag set unset = (v : Valuation) → HoldsAs nodes v tree (cond (v.flag flag) set unset)

-- the truth of a tree, by what its view shows: just one edge holds the variable's point, and the tree holds
-- where that edge's subtree does
abbrev pub IsReadOff : List NodeRecord → Tree → MarkerTreeKind → Type 0
IsReadOff nodes tree kind.True = (v : Valuation) → holds nodes tree v ≡ true
IsReadOff nodes tree kind.False = (v : Valuation) → holds nodes tree v ≡ false
IsReadOff nodes tree (kind.Version view) = (v : Valuation) →
    JustOne version_cmp (version_edges (version_node view)) (v.version view.variable) (HoldsAs nodes v tree)
IsReadOff nodes tree (kind.String view) = (v : Valuation) →
    JustOne text_cmp (text_edges (text_node view)) (v.text view.key) (HoldsAs nodes v tree)
IsReadOff nodes tree (kind.In view) =
    IsDecidedBy nodes tree (In view.key view.text.now) view.set view.unset
IsReadOff nodes tree (kind.Contains view) =
    IsDecidedBy nodes tree (Contains view.key view.text.now) view.set view.unset
IsReadOff nodes tree (kind.Extra view) = IsDecidedBy nodes tree (flag_of view.extra) view.set view.unset

-- the trees that a view leads to
abbrev pub subtrees : MarkerTreeKind → List Tree
subtrees kind.True = []
subtrees kind.False = []
subtrees (kind.Version view) = map (λ edge. edge.tree) (version_edges (version_node view))
subtrees (kind.String view) = map (λ edge. edge.tree) (text_edges (text_node view))
subtrees (kind.In view) = view.set ∷ view.unset ∷ []
subtrees (kind.Contains view) = view.set ∷ view.unset ∷ []
subtrees (kind.Extra view) = view.set ∷ view.unset ∷ []

-- a tree that was made before another one, and tests only variables after the first of that one
pub record IsBelow (nodes : List NodeRecord) (tree subtree : Tree) : Type 0 where
  pub made : IsTree nodes subtree
  pub falls : subtree.place < tree.place
  pub above : Above nodes (first_place nodes tree) subtree

-- edges cover all points without overlap in rising order, and the children on the two sides of an endpoint
-- or for the two truths of a flag differ
abbrev pub IsLaidOut : MarkerTreeKind → Type 0
IsLaidOut kind.True = Unit {0}
IsLaidOut kind.False = Unit {0}
IsLaidOut (kind.Version view) =
    SpanAll version_cmp (version_edges (version_node view)) × LeadApart (version_edges (version_node view))
IsLaidOut (kind.String view) =
    SpanAll text_cmp (text_edges (text_node view)) × LeadApart (text_edges (text_node view))
IsLaidOut (kind.In view) = view.set ≡ view.unset → ⊥
IsLaidOut (kind.Contains view) = view.set ≡ view.unset → ⊥
IsLaidOut (kind.Extra view) = view.set ≡ view.unset → ⊥
