-- A node's diagram, where children with one diagram are one: it is canonical, and nodes with one diagram are
-- equal in the order.
use Rattle.std.proofs.Common.{◌≡◌, ℕ, Bool, List, [], ◌∷◌, refl, ap, sym, subst, ◌∙◌, Ordering, Equal}
use Rattle.std.specs.Ordering.{ordering_then}
use Rattle.std.specs.Cmp.{tied_itself, then_total, on_total, nat_cmp_total, bool_cmp_total}
use Rattle.std.specs.Cmp.Lexicographic.{slice_cmp, nat_list_cmp_total}
use Rattle.pep440_text.specs.Record.{VersionRecord}
use Rattle.pep440_version.specs.Order.{version_cmp}
use Rattle.pep508_marker.specs.declared.keys.MarkerValueString.{MarkerValueString}
use Rattle.pep508_diagram.specs.declared.branch.Branch.{Branch}
use Rattle.pep508_diagram.specs.declared.variable.VersionVariable.{VersionVariable}
use Rattle.pep508_diagram.specs.Text.{text_cmp}
use Rattle.pep508_diagram.specs.Diagram.{Diagram, Leaf, Test, turned_by}
use Rattle.pep508_diagram.specs.Branches.{AllBranches, NeighboursDiffer}
use Rattle.pep508_diagram.specs.Chains.{chain}
use Rattle.pep508_diagram.specs.Children.{RootBehind, NeighboursApart, AreSameBranches}
use Rattle.pep508_diagram.specs.Question.{Question, VersionBelow, TextBelow, IsSet, version_rank, text_rank}
use Rattle.pep508_diagram.specs.Question.{flag_place, marker, AreOne, IsCanonical}
use Rattle.pep508_diagram.proofs.Alike.{alike_back}
use Rattle.pep508_diagram.proofs.Questions.{asks}
use Rattle.pep508_diagram.proofs.Chains.{canonical_chain_versions, canonical_chain_texts, canonical_flag}
use Rattle.pep508_diagram.proofs.Chains.{chain_one_versions, chain_one_texts, one_version_keys, one_text_keys}
use Rattle.pep508_diagram.proofs.Chains.{one_flags, versions_not_texts, versions_not_flag, texts_not_flag}
use Rattle.pep508_tree.specs.Tree.{Tree}
use Rattle.pep508_tree.specs.Meaning.{NodeOf, NodeRecord, Versions, Texts, Flagged, node_diagram}
use Rattle.pep508_tree.specs.Nodes.{AllChildren, ChildrenDiffer, HasBoundary, IsRising, node_place, node_cmp}
use Rattle.pep508_tree.specs.Nodes.{branch_cmp, tree_cmp}
use Rattle.pep508_tree.proofs.NodeChildren.{first_of_branches}

pub tied_trees : (a b : Tree) → a ≡ b → tree_cmp a b ≡ Equal
tied_trees a b e =
    ap (tree_cmp a) (sym e)
    ∙ tied_itself (then_total (on_total (λ tree. tree.place) nat_cmp_total)
    (on_total (λ tree. tree.negated) bool_cmp_total)) a

pub tied_places : (place : List ℕ) → text_cmp place place ≡ Equal
tied_places place = tied_itself nat_list_cmp_total place

-- a node's diagram is no leaf
pub leaf_not_node : {C : Type 0} (at : C → Diagram Question) (n : NodeOf C) (b t : Bool) → HasBoundary n →
    AreOne (Leaf b) (turned_by t (node_diagram at n)) → ⊥
leaf_not_node at (Versions key first []) b t wide a = wide refl
leaf_not_node at (Versions key first (branch ∷ later)) b t wide a = a
leaf_not_node at (Texts key first []) b t wide a = wide refl
leaf_not_node at (Texts key first (branch ∷ later)) b t wide a = a
leaf_not_node at (Flagged flag set unset) b t wide a = a

module _ (at : Tree → Diagram Question) where
  -- the children begin behind the node's variable
  abbrev pub AreBehind : NodeRecord → Type 0
  AreBehind n = AllChildren (λ c. RootBehind (node_place n) (at c)) n

module _ (at : Tree → Diagram Question) (P : Tree → Type 0)
    (one : (c d : Tree) → P c → P d → AreOne (at c) (at d) → c ≡ d) where
  -- ---- canonical diagrams

  apart_branches : {T : Type 0} (first : Tree) (later : List (Branch T Tree)) → AllBranches P first later →
      NeighboursDiffer first later → NeighboursApart marker at first later
  apart_branches first [] p differ = tt
  apart_branches first (branch ∷ later) p differ = (
    λ a. differ.0 (one first branch.child p.0 (first_of_branches P branch.child later p.1) a),
    apart_branches branch.child later p.1 differ.1,
  )

  pub canonical_node : (n : NodeRecord) → IsRising n → AllChildren (λ c. IsCanonical (at c)) n →
      AreBehind at n → AllChildren P n → ChildrenDiffer n → IsCanonical (node_diagram at n)
  canonical_node (Versions key first later) rising canonical behind p differ =
      canonical_chain_versions at key first later rising canonical behind
      (apart_branches first later p differ)
  canonical_node (Texts key first later) rising canonical behind p differ =
      canonical_chain_texts at key first later rising canonical behind (apart_branches first later p differ)
  canonical_node (Flagged flag set unset) rising canonical behind p differ =
      canonical_flag flag (at set) (at unset) canonical.0 canonical.1 behind.0 behind.1
      (λ a. differ (one set unset p.0 p.1 a))

  -- ---- nodes of one diagram

  one_branches : {T : Type 0} (cmp : T → T → Ordering) (first : Tree) (later : List (Branch T Tree))
      (other_first : Tree) (other_later : List (Branch T Tree)) → AllBranches P first later →
      AllBranches P other_first other_later →
      AreSameBranches marker at cmp first later other_first other_later →
      (first ≡ other_first) × (slice_cmp (branch_cmp cmp) later other_later ≡ Equal)
  one_branches cmp first [] other_first [] p q same = (one first other_first p q same, refl)
  one_branches cmp first [] other_first (other ∷ other_later) p q same = absurd same
  one_branches cmp first (branch ∷ later) other_first [] p q same = absurd same
  one_branches cmp first (branch ∷ later) other_first (other ∷ other_later) p q same =
      let rest = one_branches cmp branch.child later other.child other_later p.1 q.1 same.2 in
      let child = tied_trees branch.child other.child rest.0 in (
        one first other_first p.0 q.0 same.0,
        λ i. ordering_then (ordering_then (same.1 i) (child i)) (rest.1 i),
      )

  one_versions : (key other : VersionVariable) (first : Tree) (later : List (Branch VersionRecord Tree))
      (other_first : Tree) (other_later : List (Branch VersionRecord Tree)) → key ≡ other →
      AreBehind at (Versions key first later) → AreBehind at (Versions other other_first other_later) →
      AllBranches P first later → AllBranches P other_first other_later →
      AreOne (chain (VersionBelow key) at first later)
      (chain (VersionBelow other) at other_first other_later) →
      node_cmp (Versions key first later) (Versions other other_first other_later) ≡ Equal
  unfolding node_cmp
  one_versions key other first later other_first other_later same behind other_behind p q =
      subst (λ k. AreBehind at (Versions k other_first other_later) →
      AreOne (chain (VersionBelow key) at first later) (chain (VersionBelow k) at other_first other_later) →
      node_cmp (Versions key first later) (Versions k other_first other_later) ≡ Equal) same
      (λ also a.
      let branches = chain_one_versions at key first later other_first other_later behind also a in
      let parts = one_branches version_cmp first later other_first other_later p q branches in
      let child = tied_trees first other_first parts.0 in
      let place = tied_places (version_rank key ∷ []) in
      λ i. ordering_then (child i) (ordering_then (child i) (ordering_then (place i)
      (ordering_then (parts.1 i) Equal))))
      other_behind

  one_texts : (key other : MarkerValueString) (first : Tree) (later : List (Branch (List ℕ) Tree))
      (other_first : Tree) (other_later : List (Branch (List ℕ) Tree)) → key ≡ other →
      AreBehind at (Texts key first later) → AreBehind at (Texts other other_first other_later) →
      AllBranches P first later → AllBranches P other_first other_later →
      AreOne (chain (TextBelow key) at first later) (chain (TextBelow other) at other_first other_later) →
      node_cmp (Texts key first later) (Texts other other_first other_later) ≡ Equal
  unfolding node_cmp
  one_texts key other first later other_first other_later same behind other_behind p q =
      subst (λ k. AreBehind at (Texts k other_first other_later) →
      AreOne (chain (TextBelow key) at first later) (chain (TextBelow k) at other_first other_later) →
      node_cmp (Texts key first later) (Texts k other_first other_later) ≡ Equal) same
      (λ also a.
      let branches = chain_one_texts at key first later other_first other_later behind also a in
      let parts = one_branches text_cmp first later other_first other_later p q branches in
      let child = tied_trees first other_first parts.0 in
      let place = tied_places (text_rank key ∷ []) in
      λ i. ordering_then (child i) (ordering_then (child i) (ordering_then (place i) (parts.1 i))))
      other_behind

  -- nodes with one diagram are equal in the order
  pub one_node : (n m : NodeRecord) → HasBoundary n → HasBoundary m → AreBehind at n → AreBehind at m →
      AllChildren P n → AllChildren P m → AreOne (node_diagram at n) (node_diagram at m) →
      node_cmp n m ≡ Equal
  unfolding node_cmp
  one_node (Versions key first later) (Versions other f l) wide other_wide behind other_behind p q a =
      let same = one_version_keys at key other first later f l wide other_wide a in
      one_versions key other first later f l same behind other_behind p q a
  one_node (Texts key first later) (Texts other f l) wide other_wide behind other_behind p q a =
      let same = one_text_keys at key other first later f l wide other_wide a in
      one_texts key other first later f l same behind other_behind p q a
  one_node (Flagged flag set unset) (Flagged other s u) wide other_wide behind other_behind p q a =
      let same = one_flags flag other (at set) (at unset) (at s) (at u) a in
      let place =
      ap (λ f. text_cmp (flag_place flag) (flag_place f)) (sym same) ∙ tied_places (flag_place flag) in
      let first = tied_trees set s (one set s p.0 q.0 a.1) in
      let second = tied_trees unset u (one unset u p.1 q.1 a.2) in
      λ i. ordering_then (first i) (ordering_then (second i) (ordering_then (place i) Equal))
  one_node (Versions key first later) (Texts other f l) wide other_wide behind other_behind p q a =
      absurd (versions_not_texts at key other first later f l wide other_wide a)
  one_node (Versions key first later) (Flagged other s u) wide other_wide behind other_behind p q a =
      absurd (versions_not_flag at key other first later (at s) (at u) wide a)
  one_node (Texts key first later) (Flagged other s u) wide other_wide behind other_behind p q a =
      absurd (texts_not_flag at key other first later (at s) (at u) wide a)
  one_node (Texts key first later) (Versions other f l) wide other_wide behind other_behind p q a =
      absurd (versions_not_texts at other key f l first later other_wide wide
      (alike_back asks (chain (TextBelow key) at first later) (chain (VersionBelow other) at f l) a))
  one_node (Flagged flag set unset) (Versions other f l) wide other_wide behind other_behind p q a =
      absurd (versions_not_flag at other flag f l (at set) (at unset) other_wide
      (alike_back asks (Test (IsSet flag) (at set) (at unset)) (chain (VersionBelow other) at f l) a))
  one_node (Flagged flag set unset) (Texts other f l) wide other_wide behind other_behind p q a =
      absurd (texts_not_flag at other flag f l (at set) (at unset) other_wide
      (alike_back asks (Test (IsSet flag) (at set) (at unset)) (chain (TextBelow other) at f l) a))
