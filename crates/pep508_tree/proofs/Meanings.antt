-- What trees with a node mean: what stands in the node at a valuation. A tree whose variables come after that
-- of the node does not change where that variable is moved.
use Rattle.std.proofs.Common.{◌≡◌, ◌⊎◌, inl, inr, ℕ, ◌+◌, ◌<◌, Bool, true, false, cond, List, [], ◌∷◌, length}
use Rattle.std.proofs.Common.{get_or, refl, ap, sym, subst, ◌∙◌}
use Rattle.version_ranges.specs.Turns.{flips}
use Rattle.pep440_version.specs.Order.{version_cmp}
use Rattle.pep508_diagram.specs.declared.branch.Branch.{Branch}
use Rattle.pep508_diagram.specs.Text.{text_cmp}
use Rattle.pep508_diagram.specs.Diagram.{Diagram, Leaf}
use Rattle.pep508_diagram.specs.Branches.{AllBranches}
use Rattle.pep508_diagram.specs.Chains.{IsChild}
use Rattle.pep508_diagram.specs.Question.{Question, Valuation, place_of, answer, marker, truth}
use Rattle.pep508_diagram.proofs.Moved.{DiffersAt, skip}
use Rattle.pep508_diagram.proofs.Questions.{asks}
use Rattle.pep508_diagram.proofs.Chains.{truth_chain_versions, truth_chain_texts, all_children}
use Rattle.pep508_diagram.proofs.Chains.{branch_at_child, behind_above}
use Rattle.pep508_diagram.proofs.Turned.{turned_truth}
use Rattle.pep508_tree.specs.Tree.{Tree}
use Rattle.pep508_tree.specs.Meaning.{NodeOf, NodeRecord, Versions, Texts, Flagged, node_diagram, diagrams}
use Rattle.pep508_tree.specs.Meaning.{diagram_of, holds, IsTree}
use Rattle.pep508_tree.specs.Nodes.{AllChildren, IsChildIn, Above, AreSound, chosen, node_at, turned}
use Rattle.pep508_tree.proofs.OneTree.{tree_at, root_behind, canonical_trees}

-- ---- what stands at a valuation

along : {C : Type 0} (at : C → Diagram Question) (v : Valuation) (b : Bool) (x y : C) →
    cond b (truth (at x) v) (truth (at y) v) ≡ truth (at (cond b x y)) v
along at v true x y = refl
along at v false x y = refl

-- a node's diagram says what stands in the node
pub node_truth : {C : Type 0} (at : C → Diagram Question) (n : NodeOf C) (v : Valuation) →
    truth (node_diagram at n) v ≡ truth (at (chosen n v)) v
unfolding answer
node_truth at (Versions key first later) v = truth_chain_versions at key first later v
node_truth at (Texts key first later) v = truth_chain_texts at key first later v
node_truth at (Flagged flag set unset) v = along at v (v.flag flag) set unset

chosen_flag : {C : Type 0} (b : Bool) (set unset : C) → (cond b set unset ≡ set) ⊎ (cond b set unset ≡ unset)
chosen_flag true set unset = inl refl
chosen_flag false set unset = inr refl

-- what stands at a valuation is a child
pub chosen_child : {C : Type 0} (n : NodeOf C) (v : Valuation) → IsChildIn (chosen n v) n
chosen_child (Versions key first later) v = branch_at_child version_cmp first later (v.version key)
chosen_child (Texts key first later) v = branch_at_child text_cmp first later (v.text key)
chosen_child (Flagged flag set unset) v = chosen_flag (v.flag flag) set unset

module _ {C : Type 0} (P : C → Type 0) where
  -- what holds of all children holds of each one
  pub each_child : (n : NodeOf C) (c : C) → AllChildren P n → IsChildIn c n → P c
  each_child (Versions key first later) c all is = all_children P first later c all is
  each_child (Texts key first later) c all is = all_children P first later c all is
  each_child (Flagged flag set unset) c all (inl is) = subst P (sym is) all.0
  each_child (Flagged flag set unset) c all (inr is) = subst P (sym is) all.1

  pub chosen_all : (n : NodeOf C) (v : Valuation) → AllChildren P n → P (chosen n v)
  chosen_all n v all = each_child n (chosen n v) all (chosen_child n v)

  pub branches_from : {T : Type 0} (first : C) (later : List (Branch T C)) →
      ((c : C) → IsChild c first later → P c) → AllBranches P first later
  branches_from first [] each = each first refl
  branches_from first (branch ∷ later) each =
      (each first (inl refl), branches_from branch.child later (λ c is. each c (inr is)))

  -- what holds of each child holds of all
  pub children_from : (n : NodeOf C) → ((c : C) → IsChildIn c n → P c) → AllChildren P n
  children_from (Versions key first later) each = branches_from first later each
  children_from (Texts key first later) each = branches_from first later each
  children_from (Flagged flag set unset) each = (each set (inl refl), each unset (inr refl))

-- ---- what trees say

-- a tree with its leaves turned
pub holds_turned : (nodes : List NodeRecord) (turns : Bool) (t : Tree) (v : Valuation) →
    holds nodes (turned turns t) v ≡ flips turns (holds nodes t v)
holds_turned nodes turns t v =
    let d = get_or (diagrams nodes) t.place (Leaf true) in
    turned_truth marker (flips turns t.negated) d v ∙ flips_on turns t.negated (truth d v)
    ∙ ap (flips turns) (sym (turned_truth marker t.negated d v))
  where
    flips_on : (a b x : Bool) → flips (flips a b) x ≡ flips a (flips b x)
    flips_on true true true = refl
    flips_on true true false = refl
    flips_on true false x = refl
    flips_on false b x = refl

-- a tree with a node says what stands in the node
pub holds_at : (nodes : List NodeRecord) → AreSound nodes → (t : Tree) (k : ℕ) → t.place ≡ k + 1 →
    k < length nodes → (v : Valuation) →
    holds nodes t v ≡ flips t.negated (holds nodes (chosen (node_at nodes k) v) v)
holds_at nodes sound t k e here v =
    let d = node_diagram (diagram_of nodes) (node_at nodes k) in
    ap (λ d. truth d v) (tree_at nodes sound t k e here) ∙ turned_truth marker t.negated d v
    ∙ ap (flips t.negated) (node_truth (diagram_of nodes) (node_at nodes k) v)

-- ---- one variable is moved

-- a tree behind a question's place holds alike where only the question's variable differs
pub unmoved : (nodes : List NodeRecord) → AreSound nodes → (q : Question) (t : Tree) → IsTree nodes t →
    Above nodes (place_of q) t → (v w : Valuation) → DiffersAt marker q v w →
    holds nodes t w ≡ holds nodes t v
unmoved nodes sound q t made above v w same =
    let d = diagram_of nodes t in
    skip asks d q v w same (canonical_trees nodes sound t made)
    (behind_above q d (root_behind nodes sound (place_of q) t made above))
