-- Branches and nodes whose children are given anew.
use Rattle.std.proofs.Common.{◌≡◌, ◌↔◌, IsTrue, Bool, List, [], ◌∷◌, map, refl}
use Rattle.std.proofs.Common.{inl, inr}
use Rattle.std.proofs.lemmas.Bool.{cases_Bool}
use Rattle.std.specs.List.{AllByRecursion}
use Rattle.std.specs.Cmp.Lexicographic.{nat_list_cmp_total}
use Rattle.pep440_version.specs.OrderLaws.{version_cmp_total}
use Rattle.pep508_diagram.specs.declared.branch.Branch.{Branch}
use Rattle.pep508_diagram.specs.Branches.{AllBranches}
use Rattle.pep508_diagram.specs.Question.{Valuation}
use Rattle.pep508_tree.specs.Meaning.{NodeOf, Versions, Texts, Flagged}
use Rattle.pep508_tree.specs.Nodes.{AllChildren, IsRising, IsJoined, chosen, node_place, first_child}
use Rattle.pep508_tree.specs.Conjunctions.{Meet}
use Rattle.pep508_leaf_diagram.specs.Forms.{others, IsSingle}
use Rattle.pep508_leaf_diagram.specs.Joining.{node_joined}
use Rattle.pep508_tree.proofs.Rejoined.{joined_rises, joined_differs, joined_at, joined_all}

module _ {C D : Type 0} (same : D → D → Bool) (decides : (x y : D) → IsTrue (same x y) ↔ (x ≡ y)) where
  pub place_joined : (n : NodeOf C) (first : D) (children : List D) →
      node_place (node_joined same n first children) ≡ node_place n
  place_joined (Versions key f later) first children = refl
  place_joined (Texts key f later) first children = refl
  place_joined (Flagged flag set unset) first children = refl

  pub rises_joined : (n : NodeOf C) (first : D) (children : List D) → IsRising n →
      IsRising (node_joined same n first children)
  rises_joined (Versions key f later) first children rises =
      joined_rises version_cmp_total same decides first later children rises
  rises_joined (Texts key f later) first children rises =
      joined_rises nat_list_cmp_total same decides first later children rises
  rises_joined (Flagged flag set unset) first children rises = tt

  pub is_joined : (n : NodeOf C) (first : D) (children : List D) → IsJoined (node_joined same n first children)
  is_joined (Versions key f later) first children = joined_differs version_cmp_total same decides first later children
  is_joined (Texts key f later) first children = joined_differs nat_list_cmp_total same decides first later children
  is_joined (Flagged flag set unset) first children = tt

  module _ (R : C → D → Type 0) where
    pub children_joined : (P : D → Type 0) → ((c : C) (d : D) → R c d → P d) → (n : NodeOf C) (first : D)
        (children : List D) → R (first_child n) first → Meet R (others n) children →
        AllChildren P (node_joined same n first children)
    children_joined P so (Versions key f later) first children r m =
        joined_all version_cmp_total same decides P R so first later children (so f first r) m
    children_joined P so (Texts key f later) first children r m =
        joined_all nat_list_cmp_total same decides P R so first later children (so f first r) m
    children_joined P so (Flagged flag set unset) first [] r m = absurd m
    children_joined P so (Flagged flag set unset) first (d ∷ children) r m = (so set first r, so unset d m.0)

    pub chosen_joined : (n : NodeOf C) (first : D) (children : List D) → R (first_child n) first →
        Meet R (others n) children → IsRising n → (v : Valuation) →
        R (chosen n v) (chosen (node_joined same n first children) v)
    chosen_joined (Versions key f later) first children r m rises v =
        joined_at version_cmp_total same decides R f first later children r m rises (v.version key)
    chosen_joined (Texts key f later) first children r m rises v =
        joined_at nat_list_cmp_total same decides R f first later children r m rises (v.text key)
    chosen_joined (Flagged flag set unset) first [] r m rises v = absurd m
    chosen_joined (Flagged flag set unset) first (d ∷ children) r m rises v = elim (cases_Bool (v.flag flag)) [
      | inl set_is ↦ rw set_is r
      | inr unset_is ↦ rw unset_is m.0
    ]

-- where there is but one child it stands at each valuation
pub chosen_single : {C : Type 0} (n : NodeOf C) → IsSingle n → (v : Valuation) → chosen n v ≡ first_child n
chosen_single (Versions key f later) single v = rw single refl
chosen_single (Texts key f later) single v = rw single refl
chosen_single (Flagged flag set unset) single v = absurd single

branches_list : {T C : Type 0} (P : C → Type 0) (first : C) (later : List (Branch T C)) → AllBranches P first later →
    P first × AllByRecursion P (map (λ branch. branch.child) later)
branches_list P first [] all = (all, tt)
branches_list P first (b ∷ later) all = (all.0, branches_list P b.child later all.1)

-- what holds of all children holds of the first and of the others
pub first_and_others : {C : Type 0} (P : C → Type 0) (n : NodeOf C) → AllChildren P n →
    P (first_child n) × AllByRecursion P (others n)
first_and_others P (Versions key f later) all = branches_list P f later all
first_and_others P (Texts key f later) all = branches_list P f later all
first_and_others P (Flagged flag set unset) all = (all.0, (all.1, tt))
