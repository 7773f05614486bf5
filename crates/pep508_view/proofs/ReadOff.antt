-- Trees read off their views.
use Rattle.std.proofs.Common.{◌≡◌, ◌<◌, ℕ, Bool, true, false, List, [], ◌∷◌, map, ap, sym, subst, ◌∙◌}
use Rattle.std.specs.Prelude.{Option, Some, IfSome}
use Rattle.std.specs.List.{AllByRecursion}
use Rattle.std.specs.declared.cmp.Ordering.{Ordering}
use Rattle.std.specs.declared.ops.Bound.{Bound}
use Rattle.std.specs.declared.ops.Bound.TheVariants.{Unbounded}
use Rattle.std.specs.Cmp.{IsTotalOrder}
use Rattle.std.specs.Cmp.Lexicographic.{nat_list_cmp_total}
use Rattle.version_ranges.specs.Point.{Point}
use Rattle.version_ranges.specs.Boundaries.{point_of}
use Rattle.version_ranges.specs.Bounds.{lower_bound_at}
use Rattle.pep440_text.specs.Record.{VersionRecord}
use Rattle.pep440_version.specs.Order.{version_cmp}
use Rattle.pep440_version.specs.OrderLaws.{version_cmp_total}
use Rattle.pep508_diagram.specs.declared.branch.Branch.{Branch}
use Rattle.pep508_marker.specs.declared.keys.MarkerValueString.{MarkerValueString}
use Rattle.pep508_diagram.specs.declared.variable.VersionVariable.{VersionVariable}
use Rattle.pep508_diagram.specs.declared.variable.Flag.{Flag}
use Rattle.pep508_diagram.specs.declared.variable.Flag.TheVariants.{In, Contains}
use Rattle.pep508_diagram.specs.Branches.{RisingBranches, branch_at, AllBranches, NeighboursDiffer}
use Rattle.pep508_diagram.specs.Text.{text_cmp}
use Rattle.pep508_diagram.specs.Question.{Valuation}
use Rattle.pep508_tree.specs.Tree.{Tree, always, never, negation}
use Rattle.pep508_tree.specs.Nodes.{turned_branch}
use Rattle.pep508_tree.specs.Meaning.{NodeRecord, Versions, Texts, Flagged, holds, IsTree}
use Rattle.pep508_tree.specs.Nodes.{first_place, signed, Above}
use Rattle.pep508_tree.specs.Roots.{root_of, IsRoot}
use Rattle.pep508_view.specs.declared.kind.MarkerTreeKind.{MarkerTreeKind}
use Rattle.pep508_view.specs.declared.kind.MarkerTreeKind.TheVariants as kind
use Rattle.pep508_view.specs.Edges.{edges_from, edges}
use Rattle.pep508_view.specs.Views.{version_node, text_node, in_node, contains_node, extra_node}
use Rattle.pep508_view.specs.Views.{version_edges, text_edges, flag_of, IsKind}
use Rattle.pep508_view.specs.Reading.{JustOne, SpanAll, LeadApart}
use Rattle.pep508_view.specs.ReadOff.{HoldsAs, IsReadOff, IsBelow, IsLaidOut, subtrees}
use Rattle.pep508_view.proofs.Reading.{one_holds, span_all, lead_apart, weaker_lead}

-- the node at a tree's root
shown_root : (nodes : List NodeRecord) (tree : Tree) (node : NodeRecord) → root_of nodes tree ≡ Some node →
    IfSome (root_of nodes tree) (IsRoot nodes tree) → IsRoot nodes tree node
shown_root nodes tree node e h = subst (λ (root : Option NodeRecord). IfSome root (IsRoot nodes tree)) e h

module _ (nodes : List NodeRecord) (tree : Tree) where
  -- ---- truth

  one_leads : {T : Type 0} (cmp : T → T → Ordering) → IsTotalOrder cmp → (first : Tree)
      (later : List (Branch T Tree)) (p : Point T) (v : Valuation) → RisingBranches cmp later →
      holds nodes tree v ≡ holds nodes (branch_at cmp first later p) v →
      JustOne cmp (edges first later) p (HoldsAs nodes v tree)
  one_leads cmp o first later p v rising h =
      weaker_lead cmp o (edges first later) p (λ subtree. subtree ≡ branch_at cmp first later p)
      (HoldsAs nodes v tree)
      (λ subtree e. h ∙ sym (ap (λ (t : Tree). holds nodes t v) e))
      (one_holds cmp o first later p rising)

  versions_read : (negated : Bool) (key : VersionVariable) (first : Tree)
      (later : List (Branch VersionRecord Tree)) →
      IsRoot nodes tree (signed negated (Versions key first later)) → (v : Valuation) →
      JustOne version_cmp (version_edges (signed negated (Versions key first later))) (v.version key)
      (HoldsAs nodes v tree)
  versions_read true key first later root v =
      one_leads version_cmp version_cmp_total (negation first) (map turned_branch later) (v.version key) v
      root.rises (root.holds_is v)
  versions_read false key first later root v =
      one_leads version_cmp version_cmp_total first later (v.version key) v root.rises (root.holds_is v)

  texts_read : (negated : Bool) (key : MarkerValueString) (first : Tree)
      (later : List (Branch (List ℕ) Tree)) →
      IsRoot nodes tree (signed negated (Texts key first later)) → (v : Valuation) →
      JustOne text_cmp (text_edges (signed negated (Texts key first later))) (v.text key)
      (HoldsAs nodes v tree)
  texts_read true key first later root v =
      one_leads text_cmp nat_list_cmp_total (negation first) (map turned_branch later) (v.text key) v
      root.rises (root.holds_is v)
  texts_read false key first later root v =
      one_leads text_cmp nat_list_cmp_total first later (v.text key) v root.rises (root.holds_is v)

  pub read_off : ((v : Valuation) → holds nodes always v ≡ true) →
      ((v : Valuation) → holds nodes never v ≡ false) →
      IfSome (root_of nodes tree) (IsRoot nodes tree) → (kind : MarkerTreeKind) → IsKind nodes tree kind →
      IsReadOff nodes tree kind
  read_off yes_always no_never root kind.True is =
      λ v. ap (λ (t : Tree). holds nodes t v) is ∙ yes_always v
  read_off yes_always no_never root kind.False is =
      λ v. ap (λ (t : Tree). holds nodes t v) is ∙ no_never v
  read_off yes_always no_never root (kind.Version view) is =
      versions_read view.negated view.variable view.first view.later.now
      (shown_root nodes tree (version_node view) is.1 root)
  read_off yes_always no_never root (kind.String view) is =
      texts_read view.negated view.key view.first view.later.now
      (shown_root nodes tree (text_node view) is.1 root)
  read_off yes_always no_never root (kind.In view) is =
      (shown_root nodes tree (in_node view) is.1 root).holds_is
  read_off yes_always no_never root (kind.Contains view) is =
      (shown_root nodes tree (contains_node view) is.1 root).holds_is
  read_off yes_always no_never root (kind.Extra view) is =
      (shown_root nodes tree (extra_node view) is.1 root).holds_is

  -- ---- subtrees

  below_of : (place : List ℕ) → place ≡ first_place nodes tree → (subtree : Tree) → IsTree nodes subtree →
      subtree.place < tree.place → Above nodes place subtree → IsBelow nodes tree subtree
  below_of place e subtree made falls above = record {
    made = made;
    falls = falls;
    above = subst (λ (place : List ℕ). Above nodes place subtree) e above;
  }

  branches_below : {T : Type 0} (lower : Bound T) (first : Tree) (later : List (Branch T Tree))
      (place : List ℕ) → place ≡ first_place nodes tree → AllBranches (IsTree nodes) first later →
      AllBranches (λ child. child.place < tree.place) first later →
      AllBranches (Above nodes place) first later →
      AllByRecursion (IsBelow nodes tree) (map (λ edge. edge.tree) (edges_from lower first later))
  branches_below lower first [] place e made falls above = (below_of place e first made falls above, tt)
  branches_below lower first (b ∷ later) place e made falls above = (
    below_of place e first made.0 falls.0 above.0,
    branches_below (lower_bound_at (point_of b.boundary)) b.child later place e made.1 falls.1 above.1,
  )

  versions_below : (negated : Bool) (key : VersionVariable) (first : Tree)
      (later : List (Branch VersionRecord Tree)) →
      IsRoot nodes tree (signed negated (Versions key first later)) →
      AllByRecursion (IsBelow nodes tree)
      (map (λ edge. edge.tree) (version_edges (signed negated (Versions key first later))))
  versions_below true key first later root =
      branches_below Unbounded (negation first) (map turned_branch later) _ root.place_is root.made root.falls
      root.above
  versions_below false key first later root =
      branches_below Unbounded first later _ root.place_is root.made root.falls root.above

  texts_below : (negated : Bool) (key : MarkerValueString) (first : Tree)
      (later : List (Branch (List ℕ) Tree)) →
      IsRoot nodes tree (signed negated (Texts key first later)) →
      AllByRecursion (IsBelow nodes tree)
      (map (λ edge. edge.tree) (text_edges (signed negated (Texts key first later))))
  texts_below true key first later root =
      branches_below Unbounded (negation first) (map turned_branch later) _ root.place_is root.made root.falls
      root.above
  texts_below false key first later root =
      branches_below Unbounded first later _ root.place_is root.made root.falls root.above

  flag_below : (flag : Flag) (set unset : Tree) → IsRoot nodes tree (Flagged flag set unset) →
      AllByRecursion (IsBelow nodes tree) (set ∷ unset ∷ [])
  flag_below flag set unset root = (
    below_of _ root.place_is set root.made.0 root.falls.0 root.above.0,
    (below_of _ root.place_is unset root.made.1 root.falls.1 root.above.1, tt),
  )

  pub subtrees_below : IfSome (root_of nodes tree) (IsRoot nodes tree) → (kind : MarkerTreeKind) →
      IsKind nodes tree kind → AllByRecursion (IsBelow nodes tree) (subtrees kind)
  subtrees_below root kind.True is = tt
  subtrees_below root kind.False is = tt
  subtrees_below root (kind.Version view) is =
      versions_below view.negated view.variable view.first view.later.now
      (shown_root nodes tree (version_node view) is.1 root)
  subtrees_below root (kind.String view) is =
      texts_below view.negated view.key view.first view.later.now
      (shown_root nodes tree (text_node view) is.1 root)
  subtrees_below root (kind.In view) is =
      flag_below (In view.key view.text.now) view.set view.unset
      (shown_root nodes tree (in_node view) is.1 root)
  subtrees_below root (kind.Contains view) is =
      flag_below (Contains view.key view.text.now) view.set view.unset
      (shown_root nodes tree (contains_node view) is.1 root)
  subtrees_below root (kind.Extra view) is =
      flag_below (flag_of view.extra) view.set view.unset (shown_root nodes tree (extra_node view) is.1 root)

  -- ---- edges

  lie : {T : Type 0} (cmp : T → T → Ordering) → IsTotalOrder cmp → (first : Tree)
      (later : List (Branch T Tree)) → RisingBranches cmp later → NeighboursDiffer first later →
      SpanAll cmp (edges first later) × LeadApart (edges first later)
  lie cmp o first later rising differ =
      (span_all cmp o first later rising, lead_apart Unbounded first later differ)

  versions_lie : (negated : Bool) (key : VersionVariable) (first : Tree)
      (later : List (Branch VersionRecord Tree)) →
      IsRoot nodes tree (signed negated (Versions key first later)) →
      SpanAll version_cmp (version_edges (signed negated (Versions key first later)))
      × LeadApart (version_edges (signed negated (Versions key first later)))
  versions_lie true key first later root =
      lie version_cmp version_cmp_total (negation first) (map turned_branch later) root.rises root.differ
  versions_lie false key first later root =
      lie version_cmp version_cmp_total first later root.rises root.differ

  texts_lie : (negated : Bool) (key : MarkerValueString) (first : Tree)
      (later : List (Branch (List ℕ) Tree)) →
      IsRoot nodes tree (signed negated (Texts key first later)) →
      SpanAll text_cmp (text_edges (signed negated (Texts key first later)))
      × LeadApart (text_edges (signed negated (Texts key first later)))
  texts_lie true key first later root =
      lie text_cmp nat_list_cmp_total (negation first) (map turned_branch later) root.rises root.differ
  texts_lie false key first later root =
      lie text_cmp nat_list_cmp_total first later root.rises root.differ

  pub laid_out : IfSome (root_of nodes tree) (IsRoot nodes tree) → (kind : MarkerTreeKind) →
      IsKind nodes tree kind → IsLaidOut kind
  laid_out root kind.True is = tt
  laid_out root kind.False is = tt
  laid_out root (kind.Version view) is =
      versions_lie view.negated view.variable view.first view.later.now
      (shown_root nodes tree (version_node view) is.1 root)
  laid_out root (kind.String view) is =
      texts_lie view.negated view.key view.first view.later.now
      (shown_root nodes tree (text_node view) is.1 root)
  laid_out root (kind.In view) is = (shown_root nodes tree (in_node view) is.1 root).differ
  laid_out root (kind.Contains view) is = (shown_root nodes tree (contains_node view) is.1 root).differ
  laid_out root (kind.Extra view) is = (shown_root nodes tree (extra_node view) is.1 root).differ
