-- The children of a node: what holds of all of them, and where the node's diagram begins.
use Rattle.std.proofs.Common.{◌≡◌, ℕ, Bool, List, [], ◌∷◌, refl, Less}
use Rattle.version_ranges.specs.declared.boundary.Boundary.{Boundary}
use Rattle.pep508_diagram.specs.declared.branch.Branch.{Branch}
use Rattle.pep508_diagram.specs.Text.{text_cmp}
use Rattle.pep508_diagram.specs.Diagram.{Diagram, Leaf, Test, turned_by, leftmost}
use Rattle.pep508_diagram.specs.Branches.{AllBranches}
use Rattle.pep508_diagram.specs.Chains.{chain}
use Rattle.pep508_diagram.specs.Children.{RootBehind}
use Rattle.pep508_diagram.specs.Question.{Question, VersionBelow, TextBelow}
use Rattle.pep508_diagram.proofs.Pairing.{weaker_branches}
use Rattle.pep508_diagram.proofs.Chains.{root_chain_versions, root_chain_texts}
use Rattle.pep508_tree.specs.Meaning.{NodeOf, Versions, Texts, Flagged, node_diagram}
use Rattle.pep508_tree.specs.Nodes.{AllChildren, HasBoundary, first_child, node_place}

module _ {C : Type 0} where
  pub weaker_children : (P R : C → Type 0) → ((c : C) → P c → R c) → (n : NodeOf C) → AllChildren P n →
      AllChildren R n
  weaker_children P R so (Versions key first later) all = weaker_branches P R so first later all
  weaker_children P R so (Texts key first later) all = weaker_branches P R so first later all
  weaker_children P R so (Flagged flag set unset) all = (so set all.0, so unset all.1)

  pub both_branches : {T : Type 0} (P R : C → Type 0) (first : C) (later : List (Branch T C)) →
      AllBranches P first later → AllBranches R first later → AllBranches (λ c. P c × R c) first later
  both_branches P R first [] p r = (p, r)
  both_branches P R first (branch ∷ later) p r =
      ((p.0, r.0), both_branches P R branch.child later p.1 r.1)

  pub both_children : (P R : C → Type 0) (n : NodeOf C) → AllChildren P n → AllChildren R n →
      AllChildren (λ c. P c × R c) n
  both_children P R (Versions key first later) p r = both_branches P R first later p r
  both_children P R (Texts key first later) p r = both_branches P R first later p r
  both_children P R (Flagged flag set unset) p r = ((p.0, r.0), (p.1, r.1))

  pub first_of_branches : {T : Type 0} (P : C → Type 0) (first : C) (later : List (Branch T C)) →
      AllBranches P first later → P first
  first_of_branches P first [] all = all
  first_of_branches P first (branch ∷ later) all = all.0

  pub first_of_children : (P : C → Type 0) (n : NodeOf C) → AllChildren P n → P (first_child n)
  first_of_children P (Versions key first later) all = first_of_branches P first later all
  first_of_children P (Texts key first later) all = first_of_branches P first later all
  first_of_children P (Flagged flag set unset) all = all.0

-- ---- where a diagram begins

leftmost_chain : {T C Q : Type 0} (ask : Boundary T → Q) (at : C → Diagram Q) (first : C)
    (later : List (Branch T C)) → leftmost (chain ask at first later) ≡ leftmost (at first)
leftmost_chain ask at first [] = refl
leftmost_chain ask at first (branch ∷ later) = refl

pub behind_turned : (turned : Bool) (place : List ℕ) (d : Diagram Question) → RootBehind place d →
    RootBehind place (turned_by turned d)
behind_turned turned place (Leaf b) behind = behind
behind_turned turned place (Test q low high) behind = behind

module _ {C : Type 0} (at : C → Diagram Question) where
  pub leftmost_node : (n : NodeOf C) → leftmost (node_diagram at n) ≡ leftmost (at (first_child n))
  leftmost_node (Versions key first later) = leftmost_chain (VersionBelow key) at first later
  leftmost_node (Texts key first later) = leftmost_chain (TextBelow key) at first later
  leftmost_node (Flagged flag set unset) = refl

  -- a node's diagram asks first of the node's variable
  pub root_node : (place : List ℕ) (n : NodeOf C) → HasBoundary n → text_cmp place (node_place n) ≡ Less →
      RootBehind place (node_diagram at n)
  root_node place (Versions key first later) wide less =
      root_chain_versions at key first later place wide less
  root_node place (Texts key first later) wide less = root_chain_texts at key first later place wide less
  root_node place (Flagged flag set unset) wide less = less
