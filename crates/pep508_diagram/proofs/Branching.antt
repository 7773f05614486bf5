-- What stands between rising boundaries.
use Rattle.std.proofs.Common.{◌≡◌, inl, inr, ℕ, zero, suc, ◌<◌, Bool, true, false, not, cond, List, [], ◌∷◌}
use Rattle.std.proofs.Common.{◌++◌, map, length, get_or, refl, sym, ap, subst, ◌∙◌, arith}
use Rattle.std.proofs.lemmas.Bool.{cases_Bool}
use Rattle.std.specs.List.{AllByRecursion}
use Rattle.std.specs.List.Sorted.{IsPartitionedBy, IsPartitionPoint}
use Rattle.std.specs.Ordering.{is_gt}
use Rattle.std.specs.Cmp.{IsTotalOrder}
use Rattle.std.specs.declared.cmp.Ordering.{Ordering}
use Rattle.std.specs.declared.cmp.Ordering.TheVariants.{Less, Equal, Greater}
use Rattle.version_ranges.specs.declared.boundary.Boundary.{Boundary}
use Rattle.version_ranges.specs.declared.boundary.Boundary.TheVariants as boundary
use Rattle.version_ranges.specs.Point.{Point, BelowAll, point_cmp}
use Rattle.version_ranges.specs.Boundaries.{point_of, boundary_cmp}
use Rattle.version_ranges.specs.OrderLaws.{points_total, boundaries_total}
use Rattle.version_ranges.specs.Turns.{reaches}
use Rattle.version_ranges.proofs.Membership.{past_less, before_less, reached_itself, not_later}
use Rattle.pep508_diagram.specs.declared.branch.Branch.{Branch}
use Rattle.pep508_diagram.specs.Branches.{RisingBranches, branch_at, AllBranches}
use Rattle.pep508_diagram.specs.Chains.{IsChild}

pub not_gt : (r : Ordering) → not (is_gt r) ≡ true → is_gt r ≡ false
not_gt Less h = refl
not_gt Equal h = refl
not_gt Greater h = absurd (cc)

pub gt_of : (r : Ordering) → not (is_gt r) ≡ false → r ≡ Greater
gt_of Less h = absurd (cc)
gt_of Equal h = absurd (cc)
gt_of Greater h = refl

module _ {T C : Type 0} (cmp : T → T → Ordering) where
  -- the boundary of a branch lies at a point or before it
  abbrev pub reached : Point T → Branch T C → Bool
  reached p branch = reaches (point_cmp cmp) (point_of branch.boundary) p

  -- a boundary comes before those of all branches
  abbrev pub Before : Boundary T → List (Branch T C) → Type 0
  Before t later = AllByRecursion (λ other. boundary_cmp cmp t other ≡ Less)
      (map (λ branch. branch.boundary) later)

  -- no branch's boundary lies at the point or before it
  abbrev pub NoneReached : Point T → List (Branch T C) → Type 0
  NoneReached p later = AllByRecursion (λ branch. reached p branch ≡ false) later

  -- what none reaches is the first
  pub none_reached : (first : C) (later : List (Branch T C)) (p : Point T) → NoneReached p later →
      branch_at cmp first later p ≡ first
  none_reached first [] p none = refl
  none_reached first (branch ∷ later) p none = rw none.0 refl

module _ {T C : Type 0} {cmp : T → T → Ordering} (o : IsTotalOrder cmp) where
  -- behind a boundary that does not come up to p, none does
  pub unreached : (t : Boundary T) (later : List (Branch T C)) (p : Point T) →
      reaches (point_cmp cmp) (point_of t) p ≡ false → Before cmp t later → NoneReached cmp p later
  unreached t [] p over before = tt
  unreached t (branch ∷ later) p over before = (
    before_less (point_cmp cmp) (points_total cmp o) (point_of branch.boundary) (point_of t) p
        (gt_of (point_cmp cmp (point_of t) p) over) before.0,
    unreached t later p over before.1,
  )

  pub before_unreached : (t : Boundary T) (first : C) (later : List (Branch T C)) (p : Point T) →
      reaches (point_cmp cmp) (point_of t) p ≡ false → Before cmp t later →
      branch_at cmp first later p ≡ first
  before_unreached t first later p over before =
      none_reached cmp first later p (unreached t later p over before)

  -- an earlier boundary comes before what a later one comes before
  pub before_earlier : (s t : Boundary T) (later : List (Branch T C)) → boundary_cmp cmp s t ≡ Less →
      Before cmp t later → Before cmp s later
  before_earlier s t [] less before = tt
  before_earlier s t (branch ∷ later) less before = (
    (boundaries_total cmp o).trans s t branch.boundary less before.0,
    before_earlier s t later less before.1,
  )

  -- an equal boundary comes before what the other one comes before
  pub before_equal : (s t : Boundary T) (later : List (Branch T C)) → boundary_cmp cmp s t ≡ Equal →
      Before cmp t later → Before cmp s later
  before_equal s t [] same before = tt
  before_equal s t (branch ∷ later) same before = (
    (boundaries_total cmp o).congr s t branch.boundary same ∙ before.0,
    before_equal s t later same before.1,
  )

  -- those that come up to a point come first
  later_reached : (b : Branch T C) (later : List (Branch T C)) (p : Point T) (j : ℕ) (d : Branch T C) →
      Before cmp b.boundary later → j < length later → reached cmp p (get_or later j d) ≡ true →
      reached cmp p b ≡ true
  later_reached b [] p j d before h e = absurd (omega arith)
  later_reached b (branch ∷ later) p zero d before h e =
      past_less (point_cmp cmp) (points_total cmp o) (point_of b.boundary) (point_of branch.boundary) p
      (point_cmp cmp (point_of branch.boundary) p) refl before.0
      (not_gt (point_cmp cmp (point_of branch.boundary) p) e)
  later_reached b (branch ∷ later) p (suc j) d before h e =
      later_reached b later p j d before.1 (omega arith) e

  pub partitioned : (later : List (Branch T C)) (p : Point T) → RisingBranches cmp later →
      IsPartitionedBy (λ branch. reached cmp p branch) later
  partitioned [] p rising i j d h k e = absurd (omega arith)
  partitioned (branch ∷ later) p rising zero zero d h k e = e
  partitioned (branch ∷ later) p rising zero (suc j) d h k e =
      later_reached branch later p j d rising.0 (omega arith) e
  partitioned (branch ∷ later) p rising (suc i) zero d h k e = absurd (omega arith)
  partitioned (branch ∷ later) p rising (suc i) (suc j) d h k e =
      partitioned later p rising.1 i j d (omega arith) (omega arith) e

module _ {T C : Type 0} (cmp : T → T → Ordering) (p : Point T) where
  -- the first i of the branches lie at the point or before it, and the others do not
  abbrev pub IsReach : List (Branch T C) → ℕ → Type 0
  IsReach later i =
      IsPartitionPoint (λ branch. reached cmp p branch ≡ true) (λ branch. reached cmp p branch ≡ false)
      later i

  pub at_none : (first : C) (later : List (Branch T C)) → IsReach later zero →
      branch_at cmp first later p ≡ first
  at_none first [] w = refl
  at_none first (branch ∷ later) w =
      let over : reached cmp p branch ≡ false = w.1 0 branch (omega arith) (omega arith) in rw over refl

  pub at_last : (first : C) (later : List (Branch T C)) (i : ℕ) (d : Branch T C) → i < length later →
      IsReach later (suc i) → branch_at cmp first later p ≡ (get_or later i d).child
  at_last first [] i d h w = absurd (omega arith)
  at_last first (branch ∷ later) zero d h w =
      let up : reached cmp p branch ≡ true = w.0 0 branch (omega arith) (omega arith) in
      rw up (at_none branch.child later
      ((λ k e l m. absurd (omega arith)), (λ k e l m. w.1 (suc k) e (omega arith) (omega arith))))
  at_last first (branch ∷ later) (suc i) d h w =
      let up : reached cmp p branch ≡ true = w.0 0 branch (omega arith) (omega arith) in
      rw up (at_last branch.child later i d (omega arith) (
        (λ k e l m. w.0 (suc k) e (omega arith) (omega arith)),
        (λ k e l m. w.1 (suc k) e (omega arith) (omega arith)),
      ))

-- ---- children

-- what holds of all children holds of each
pub all_children : {T C : Type 0} (P : C → Type 0) (first : C) (later : List (Branch T C)) (c : C) →
    AllBranches P first later → IsChild c first later → P c
all_children P first [] c all is = subst P (sym is) all
all_children P first (branch ∷ later) c all (inl is) = subst P (sym is) all.0
all_children P first (branch ∷ later) c all (inr is) = all_children P branch.child later c all.1 is

module _ {T C : Type 0} (cmp : T → T → Ordering) where
  -- what stands at a point is a child
  pub branch_at_child : (first : C) (later : List (Branch T C)) (p : Point T) →
      IsChild (branch_at cmp first later p) first later
  branch_at_child first [] p = refl
  branch_at_child first (branch ∷ later) p = elim (cases_Bool (reached cmp p branch)) [
    | inl up ↦
        let e : branch_at cmp first (branch ∷ later) p ≡ branch_at cmp branch.child later p = rw up refl in
        subst (λ c. IsChild c first (branch ∷ later)) (sym e) (inr (branch_at_child branch.child later p))
    | inr over ↦ inl (rw over refl)
  ]

  -- below all boundaries stands the first
  pub branch_at_below : (first : C) (later : List (Branch T C)) → branch_at cmp first later BelowAll ≡ first
  branch_at_below first [] = refl
  branch_at_below first (branch ∷ later) = elim branch.boundary as (λ b.
      cond (reaches (point_cmp cmp) (point_of b) BelowAll) (branch_at cmp branch.child later BelowAll) first
      ≡ first) [
        | boundary.At v ↦ refl
        | boundary.JustAbove v ↦ refl
      ]

module _ {T C : Type 0} {cmp : T → T → Ordering} (o : IsTotalOrder cmp) where
  none_at_own : (t : Boundary T) (later : List (Branch T C)) → Before cmp t later →
      NoneReached cmp (point_of t) later
  none_at_own t [] before = tt
  none_at_own t (branch ∷ later) before = (
    not_later (points_total cmp o) (point_of t) (point_of branch.boundary) before.0,
    none_at_own t later before.1,
  )

  before_one : (t : Boundary T) (front : List (Branch T C)) (branch : Branch T C)
      (behind : List (Branch T C)) →
      Before cmp t (front ++ (branch ∷ behind)) → boundary_cmp cmp t branch.boundary ≡ Less
  before_one t [] branch behind before = before.0
  before_one t (b ∷ front) branch behind before = before_one t front branch behind before.1

  -- at its own boundary each branch's child stands
  pub branch_at_own : (first : C) (front : List (Branch T C)) (branch : Branch T C)
      (behind : List (Branch T C)) →
      RisingBranches cmp (front ++ (branch ∷ behind)) →
      branch_at cmp first (front ++ (branch ∷ behind)) (point_of branch.boundary) ≡ branch.child
  branch_at_own first [] branch behind rising =
      let here : reached cmp (point_of branch.boundary) branch ≡ true =
      reached_itself (points_total cmp o) (point_of branch.boundary) in
      rw here (none_reached cmp branch.child behind (point_of branch.boundary)
      (none_at_own branch.boundary behind rising.0))
  branch_at_own first (b ∷ front) branch behind rising =
      let up : reached cmp (point_of branch.boundary) b ≡ true =
      ap (λ r. not (is_gt r)) (before_one b.boundary front branch behind rising.0) in
      rw up (branch_at_own b.child front branch behind rising.1)

  -- each child from a boundary on stands at a point that comes up to it
  point_from : (t : Boundary T) (first : C) (later : List (Branch T C)) (c : C) → Before cmp t later →
      RisingBranches cmp later → IsChild c first later →
      (p : Point T) × (reaches (point_cmp cmp) (point_of t) p ≡ true) × (branch_at cmp first later p ≡ c)
  point_from t first [] c before rising is =
      (point_of t, reached_itself (points_total cmp o) (point_of t), sym is)
  point_from t first (branch ∷ later) c before rising (inl is) = (
    point_of t,
    reached_itself (points_total cmp o) (point_of t),
    none_reached cmp first (branch ∷ later) (point_of t) (none_at_own t (branch ∷ later) before) ∙ sym is,
  )
  point_from t first (branch ∷ later) c before rising (inr is) =
      let found = point_from branch.boundary branch.child later c rising.0 rising.1 is in (
        found.0,
        past_less (point_cmp cmp) (points_total cmp o) (point_of t) (point_of branch.boundary) found.0
            (point_cmp cmp (point_of branch.boundary) found.0) refl before.0
            (not_gt (point_cmp cmp (point_of branch.boundary) found.0) found.1),
        rw found.1 found.2,
      )

  -- each child stands at some point
  pub child_point : (first : C) (later : List (Branch T C)) (c : C) → RisingBranches cmp later →
      IsChild c first later → (p : Point T) × (branch_at cmp first later p ≡ c)
  child_point first [] c rising is = (BelowAll, sym is)
  child_point first (branch ∷ later) c rising (inl is) =
      (BelowAll, branch_at_below cmp first (branch ∷ later) ∙ sym is)
  child_point first (branch ∷ later) c rising (inr is) =
      let found = point_from branch.boundary branch.child later c rising.0 rising.1 is in
      (found.0, rw found.1 found.2)
