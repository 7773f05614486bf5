-- Branches whose children are given anew, where children that a test takes for the same are the same.
use Rattle.std.proofs.Common.{◌≡◌, ◌↔◌, IsTrue, Bool, List, [], ◌∷◌, map, sym, subst, arith}
use Rattle.std.proofs.Common.{Ordering, Less, inl, inr}
use Rattle.std.proofs.lemmas.Bool.{cases_Bool}
use Rattle.std.specs.List.{AllByRecursion}
use Rattle.std.specs.Cmp.{IsTotalOrder}
use Rattle.version_ranges.specs.declared.boundary.Boundary.{Boundary}
use Rattle.version_ranges.specs.Boundaries.{point_of, boundary_cmp}
use Rattle.version_ranges.specs.Point.{Point, point_cmp}
use Rattle.version_ranges.specs.Turns.{reaches}
use Rattle.pep508_diagram.specs.declared.branch.Branch.{Branch}
use Rattle.pep508_diagram.specs.Branches.{RisingBranches, branch_at, AllBranches, NeighboursDiffer}
use Rattle.pep508_diagram.specs.Joining.{joined_by}
use Rattle.pep508_diagram.proofs.Branching.{before_unreached}
use Rattle.pep508_tree.specs.Conjunctions.{Meet}

module _ {T C D : Type 0} {cmp : T → T → Ordering} (o : IsTotalOrder cmp) (same : D → D → Bool)
    (decides : (x y : D) → IsTrue (same x y) ↔ (x ≡ y)) where
  joined_after : (P : Boundary T → Type 0) (last : D) (later : List (Branch T C)) (children : List D) →
      AllByRecursion P (map (λ branch. branch.boundary) later) →
      AllByRecursion P (map (λ branch. branch.boundary) (joined_by same last later children))
  joined_after P last [] children all = tt
  joined_after P last (b ∷ later) [] all = tt
  joined_after P last (b ∷ later) (c ∷ children) all = elim (cases_Bool (same c last)) [
    | inl is ↦ rw is (joined_after P last later children all.1)
    | inr other ↦ rw other (all.0, joined_after P c later children all.1)
  ]

  pub joined_rises : (last : D) (later : List (Branch T C)) (children : List D) → RisingBranches cmp later →
      RisingBranches cmp (joined_by same last later children)
  joined_rises last [] children rises = tt
  joined_rises last (b ∷ later) [] rises = tt
  joined_rises last (b ∷ later) (c ∷ children) rises = elim (cases_Bool (same c last)) [
    | inl is ↦ rw is (joined_rises last later children rises.1)
    | inr other ↦
        rw other (
          joined_after (λ d. boundary_cmp cmp b.boundary d ≡ Less) c later children rises.0,
          joined_rises c later children rises.1,
        )
  ]

  pub joined_differs : (last : D) (later : List (Branch T C)) (children : List D) →
      NeighboursDiffer last (joined_by same last later children)
  joined_differs last [] children = tt
  joined_differs last (b ∷ later) [] = tt
  joined_differs last (b ∷ later) (c ∷ children) = elim (cases_Bool (same c last)) [
    | inl is ↦ rw is (joined_differs last later children)
    | inr other ↦ rw other (λ e. grind (arith, decides c last, sym e), joined_differs c later children)
  ]

  -- what holds of each pair holds at each point
  pub joined_at : (R : C → D → Type 0) (first : C) (last : D) (later : List (Branch T C)) (children : List D) →
      R first last → Meet R (map (λ branch. branch.child) later) children → RisingBranches cmp later →
      (p : Point T) → R (branch_at cmp first later p) (branch_at cmp last (joined_by same last later children) p)
  joined_at R first last [] children r m rises p = r
  joined_at R first last (b ∷ later) [] r m rises p = absurd m
  joined_at R first last (b ∷ later) (c ∷ children) r m rises p =
      elim (cases_Bool (reaches (point_cmp cmp) (point_of b.boundary) p)) [
        | inl up ↦ elim (cases_Bool (same c last)) [
          | inl is ↦
              let one : c ≡ last = (decides c last).0 is in
              rw (up, is) (joined_at R b.child last later children (subst (R b.child) one m.0) m.1 rises.1 p)
          | inr other ↦ rw (up, other, up) (joined_at R b.child c later children m.0 m.1 rises.1 p)
        ]
        | inr over ↦ elim (cases_Bool (same c last)) [
          | inl is ↦
              let here : branch_at cmp first later p ≡ first = before_unreached o b.boundary first later p
              over rises.0 in
              rw (over, is)
              (subst (λ x. R x (branch_at cmp last (joined_by same last later children) p)) here
              (joined_at R first last later children r m.1 rises.1 p))
          | inr other ↦ rw (over, other, over) r
        ]
      ]

  pub joined_all : (P : D → Type 0) (R : C → D → Type 0) → ((c : C) (d : D) → R c d → P d) → (last : D)
      (later : List (Branch T C)) (children : List D) → P last →
      Meet R (map (λ branch. branch.child) later) children →
      AllBranches P last (joined_by same last later children)
  joined_all P R so last [] children p m = p
  joined_all P R so last (b ∷ later) [] p m = absurd m
  joined_all P R so last (b ∷ later) (c ∷ children) p m = elim (cases_Bool (same c last)) [
    | inl is ↦ rw is (joined_all P R so last later children p m.1)
    | inr other ↦ rw other (p, joined_all P R so c later children (so b.child c m.0) m.1)
  ]
