-- Nodes whose children are constants.
use Rattle.std.proofs.Common.{◌≡◌, ◌∙◌, ℕ, Bool, true, false, not, cond, List, [], ◌∷◌, map, refl, ap, sym}
use Rattle.std.proofs.Common.{subst, arith, Ordering}
use Rattle.version_ranges.specs.Point.{Point, point_cmp}
use Rattle.version_ranges.specs.Boundaries.{point_of, boundary_cmp}
use Rattle.version_ranges.specs.Turns.{Rising, reaches}
use Rattle.pep440_version.specs.Order.{version_cmp}
use Rattle.pep508_diagram.specs.declared.branch.Branch.{Branch}
use Rattle.pep508_diagram.specs.Text.{text_cmp}
use Rattle.pep508_diagram.specs.Branches.{AllBranches, NeighboursDiffer, branch_at}
use Rattle.pep508_diagram.specs.Question.{Valuation}
use Rattle.pep508_diagram.proofs.Questions.{not_not}
use Rattle.pep508_tree.specs.Tree.{Tree, constant}
use Rattle.pep508_tree.specs.Meaning.{NodeOf, NodeRecord, Versions, Texts, Flagged, holds, IsTree}
use Rattle.pep508_tree.specs.Nodes.{AllChildren, Above, IsRising, IsJoined, Made, chosen}
use Rattle.pep508_tree.specs.Leaves.{constant_branch, with_constants}
use Rattle.pep508_tree.proofs.Disjoint.{always_holds, never_holds}

constant_holds : (nodes : List NodeRecord) (truth : Bool) (v : Valuation) → holds nodes (constant truth) v ≡ truth
constant_holds nodes true v = always_holds nodes v
constant_holds nodes false v = never_holds nodes v

above_constant : (nodes : List NodeRecord) (place : List ℕ) (truth : Bool) → Above nodes place (constant truth)
unfolding Above
above_constant nodes place truth k e = absurd (omega arith)

constants_differ : (a b : Bool) → constant a ≡ constant b → a ≡ b
constants_differ a b e = sym (not_not a) ∙ ap (λ t. not t.negated) e ∙ not_not b

either_constant : (b x y : Bool) → cond b (constant x) (constant y) ≡ constant (cond b x y)
either_constant true x y = refl
either_constant false x y = refl

module _ {T : Type 0} where
  all_constants : (P : Tree → Type 0) → ((truth : Bool) → P (constant truth)) → (first : Bool)
      (later : List (Branch T Bool)) → AllBranches P (constant first) (map constant_branch later)
  all_constants P each first [] = each first
  all_constants P each first (branch ∷ later) = (each first, all_constants P each branch.child later)

  same_boundaries : (later : List (Branch T Bool)) →
      map (λ branch. branch.boundary) (map constant_branch later) ≡ map (λ branch. branch.boundary) later
  same_boundaries [] = refl
  same_boundaries (branch ∷ later) = ap (λ bs. branch.boundary ∷ bs) (same_boundaries later)

  neighbours_differ : (first : Bool) (later : List (Branch T Bool)) → NeighboursDiffer first later →
      NeighboursDiffer (constant first) (map constant_branch later)
  neighbours_differ first [] differ = tt
  neighbours_differ first (branch ∷ later) differ = (
    λ e. differ.0 (constants_differ first branch.child e),
    neighbours_differ branch.child later differ.1,
  )

  constant_at : (cmp : T → T → Ordering) (first : Bool) (later : List (Branch T Bool)) (p : Point T) →
      branch_at cmp (constant first) (map constant_branch later) p ≡ constant (branch_at cmp first later p)
  constant_at cmp first [] p = refl
  constant_at cmp first (branch ∷ later) p =
      let up = reaches (point_cmp cmp) (point_of branch.boundary) p in
      ap (λ x. cond up x (constant first)) (constant_at cmp branch.child later p)
      ∙ either_constant up (branch_at cmp branch.child later p) first

leaf_all : (P : Tree → Type 0) → ((truth : Bool) → P (constant truth)) → (n : NodeOf Bool) →
    AllChildren P (with_constants n)
leaf_all P each (Versions key first later) = all_constants P each first later
leaf_all P each (Texts key first later) = all_constants P each first later
leaf_all P each (Flagged flag set unset) = (each set, each unset)

pub leaf_made : (nodes : List NodeRecord) (n : NodeOf Bool) → AllChildren (IsTree nodes) (with_constants n)
leaf_made nodes n = leaf_all (IsTree nodes) (λ truth. omega arith) n

pub leaf_above : (nodes : List NodeRecord) (place : List ℕ) (n : NodeOf Bool) →
    AllChildren (Above nodes place) (with_constants n)
leaf_above nodes place n = leaf_all (Above nodes place) (above_constant nodes place) n

pub leaf_rises : (n : NodeOf Bool) → IsRising n → IsRising (with_constants n)
leaf_rises (Versions key first later) rises =
    subst (Rising (boundary_cmp version_cmp)) (sym (same_boundaries later)) rises
leaf_rises (Texts key first later) rises =
    subst (Rising (boundary_cmp text_cmp)) (sym (same_boundaries later)) rises
leaf_rises (Flagged flag set unset) rises = tt

pub leaf_joined : (n : NodeOf Bool) → IsJoined n → IsJoined (with_constants n)
leaf_joined (Versions key first later) joined = neighbours_differ first later joined
leaf_joined (Texts key first later) joined = neighbours_differ first later joined
leaf_joined (Flagged flag set unset) joined = tt

leaf_chosen : (n : NodeOf Bool) (v : Valuation) → chosen (with_constants n) v ≡ constant (chosen n v)
leaf_chosen (Versions key first later) v = constant_at version_cmp first later (v.version key)
leaf_chosen (Texts key first later) v = constant_at text_cmp first later (v.text key)
leaf_chosen (Flagged flag set unset) v = either_constant (v.flag flag) set unset

pub leaf_holds : (old new : List NodeRecord) (n : NodeOf Bool) (tree : Tree) →
    Made old new (with_constants n) tree → (v : Valuation) → holds new tree v ≡ chosen n v
leaf_holds old new n tree made v =
    made.truth_is v ∙ ap (λ t. holds old t v) (leaf_chosen n v) ∙ constant_holds old (chosen n v) v
