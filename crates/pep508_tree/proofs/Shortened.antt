-- Nodes whose versions are in their shortest spelling: equal to those that they were, and so are the trees'
-- diagrams.
use Rattle.std.proofs.Common.{◌≡◌, ◌∙◌, inl, inr, ℕ, zero, suc, ◌+◌, ◌≤◌, ◌<◌, List, [], ◌∷◌, map, length}
use Rattle.std.proofs.Common.{refl, sym, subst, arith, Equal}
use Rattle.std.specs.Cmp.{tied_itself}
use Rattle.std.specs.Cmp.Lexicographic.{slice_cmp, nat_list_cmp_total}
use Rattle.pep440_text.specs.Record.{VersionRecord}
use Rattle.pep440_version.specs.Order.{version_cmp}
use Rattle.pep508_marker.specs.declared.keys.MarkerValueString.{MarkerValueString}
use Rattle.pep508_diagram.specs.declared.branch.Branch.{Branch}
use Rattle.pep508_diagram.specs.declared.variable.VersionVariable.{VersionVariable}
use Rattle.pep508_diagram.specs.Diagram.{Diagram}
use Rattle.pep508_diagram.specs.Question.{Question, VersionBelow, TextBelow}
use Rattle.pep508_diagram.specs.Branches.{AllBranches}
use Rattle.pep508_diagram.specs.Chains.{chain}
use Rattle.pep508_diagram.specs.Shortened.{shortened_branch, AllShort, HasShortVersions}
use Rattle.pep508_diagram.proofs.Shortened.{shortened_tied, shortened_rise, shortened_differ, shortened_all}
use Rattle.pep508_diagram.proofs.Shortened.{shortened_none, shortened_short, turned_short}
use Rattle.pep508_tree.specs.Tree.{Tree}
use Rattle.pep508_tree.specs.Meaning.{NodeOf, NodeRecord, Versions, Texts, Flagged, node_diagram, diagram_of}
use Rattle.pep508_tree.specs.Meaning.{IsTree}
use Rattle.pep508_tree.specs.Nodes.{AllChildren, IsRising, ChildrenDiffer, HasBoundary, HasShortBounds}
use Rattle.pep508_tree.specs.Nodes.{AreSound, first_child, node_at, node_place, branch_cmp, node_cmp}
use Rattle.pep508_tree.specs.Nodes.{short_node}
use Rattle.pep508_tree.specs.NodeLaws.{trees_total, nodes_total}
use Rattle.pep508_tree.proofs.Diagrams.{diagram_top}
use Rattle.pep508_tree.proofs.NodeChildren.{weaker_children}
use Rattle.pep508_tree.proofs.OneTree.{top_or_node, tree_at}

-- ---- nodes

module _ {C : Type 0} where
  pub short_place : (n : NodeOf C) → node_place (short_node n) ≡ node_place n
  short_place (Versions key first later) = refl
  short_place (Texts key first later) = refl
  short_place (Flagged flag set unset) = refl

  pub short_first : (n : NodeOf C) → first_child (short_node n) ≡ first_child n
  short_first (Versions key first later) = refl
  short_first (Texts key first later) = refl
  short_first (Flagged flag set unset) = refl

  pub short_children : (P : C → Type 0) (n : NodeOf C) → AllChildren P n → AllChildren P (short_node n)
  short_children P (Versions key first later) all = shortened_all P first later all
  short_children P (Texts key first later) all = all
  short_children P (Flagged flag set unset) all = all

  pub short_rises : (n : NodeOf C) → IsRising n → IsRising (short_node n)
  short_rises (Versions key first later) rises = shortened_rise later rises
  short_rises (Texts key first later) rises = rises
  short_rises (Flagged flag set unset) rises = rises

  pub short_differ : (n : NodeOf C) → ChildrenDiffer n → ChildrenDiffer (short_node n)
  short_differ (Versions key first later) differ = shortened_differ first later differ
  short_differ (Texts key first later) differ = differ
  short_differ (Flagged flag set unset) differ = differ

  pub short_wide : (n : NodeOf C) → HasBoundary n → HasBoundary (short_node n)
  short_wide (Versions key first later) wide = λ e. wide (shortened_none later e)
  short_wide (Texts key first later) wide = wide
  short_wide (Flagged flag set unset) wide = wide

  pub short_short : (n : NodeOf C) → HasShortBounds (short_node n)
  short_short (Versions key first later) = shortened_short later
  short_short (Texts key first later) = tt
  short_short (Flagged flag set unset) = tt

branches_tied : (later : List (Branch VersionRecord Tree)) →
    slice_cmp (branch_cmp version_cmp) (map shortened_branch later) later ≡ Equal
branches_tied [] = refl
branches_tied (branch ∷ later) =
    rw (shortened_tied branch.boundary, tied_itself trees_total branch.child) (branches_tied later)

-- a node is equal to the one of its shortest spelling
short_tied : (n : NodeRecord) → node_cmp (short_node n) n ≡ Equal
unfolding node_cmp
short_tied (Versions key first later) =
    rw (
      tied_itself trees_total first,
      tied_itself nat_list_cmp_total (node_place (Versions key first later)),
      branches_tied later,
    ) refl
short_tied (Texts key first later) = tied_itself nodes_total (Texts key first later)
short_tied (Flagged flag set unset) = tied_itself nodes_total (Flagged flag set unset)

-- so what is equal to the one is equal to the other
pub short_placed : (at n : NodeRecord) → node_cmp at (short_node n) ≡ Equal → node_cmp at n ≡ Equal
short_placed at n e = nodes_total.congr at (short_node n) n e ∙ short_tied n

-- ---- diagrams

module _ {C : Type 0} (at : C → Diagram Question) where
  versions_short : (key : VersionVariable) (first : C) (later : List (Branch VersionRecord C)) →
      AllBranches (λ c. HasShortVersions (at c)) first later → AllShort later →
      HasShortVersions (chain (VersionBelow key) at first later)
  versions_short key first [] all short = all
  versions_short key first (branch ∷ later) all short =
      (short.0, all.0, versions_short key branch.child later all.1 short.1)

  texts_short : (key : MarkerValueString) (first : C) (later : List (Branch (List ℕ) C)) →
      AllBranches (λ c. HasShortVersions (at c)) first later →
      HasShortVersions (chain (TextBelow key) at first later)
  texts_short key first [] all = all
  texts_short key first (branch ∷ later) all = (tt, all.0, texts_short key branch.child later all.1)

  node_short : (n : NodeOf C) → AllChildren (λ c. HasShortVersions (at c)) n → HasShortBounds n →
      HasShortVersions (node_diagram at n)
  node_short (Versions key first later) all short = versions_short key first later all short
  node_short (Texts key first later) all short = texts_short key first later all
  node_short (Flagged flag set unset) all short = (tt, all.0, all.1)

module _ (nodes : List NodeRecord) (sound : AreSound nodes) where
  short_to : (m : ℕ) (t : Tree) → t.place < m → IsTree nodes t → HasShortVersions (diagram_of nodes t)
  short_to zero t small made = absurd (omega arith)
  short_to (suc m) t small made = elim (top_or_node t.place) [
    | inl e ↦ subst HasShortVersions (sym (diagram_top nodes t e)) tt
    | inr e ↦
        let k = e.0 in
        let here : k < length nodes = omega (arith, e.1) in
        let n = node_at nodes k in
        let inner : AllChildren (λ c. HasShortVersions (diagram_of nodes c)) n =
        weaker_children (λ c. c.place ≤ k) (λ c. HasShortVersions (diagram_of nodes c))
        (λ c h. short_to m c (omega (arith, e.1)) (omega arith)) n (sound.each k here).before in
        subst HasShortVersions (sym (tree_at nodes sound t k e.1 here))
        (turned_short t.negated (node_diagram (diagram_of nodes) n)
        (node_short (diagram_of nodes) n inner (sound.each k here).short))
  ]

  -- each version in the diagram of a tree is in its shortest spelling
  pub short_trees : (t : Tree) → IsTree nodes t → HasShortVersions (diagram_of nodes t)
  short_trees t made = short_to (t.place + 1) t (omega arith) made
