-- What stands between two bounds, and at both ends.
use Rattle.std.proofs.Common.{◌≡◌, ◌∙◌, inl, inr, Bool, true, false, not, ◌&&◌, List, [], ◌∷◌, refl, ap, sym}
use Rattle.std.proofs.Common.{subst, true≢false, Less, Equal, Greater, Ordering, is_lt, is_gt}
use Rattle.std.proofs.lemmas.Bool.{cases_Bool}
use Rattle.std.specs.List.{AllByRecursion}
use Rattle.std.specs.Ordering.{ordering_reverse}
use Rattle.std.specs.Cmp.{IsTotalOrder, upto}
use Rattle.std.specs.declared.ops.Bound.{Bound}
use Rattle.std.specs.declared.ops.Bound.TheVariants.{Included, Excluded, Unbounded}
use Rattle.version_ranges.specs.Point.{Point, BelowAll, At, JustAbove, point_cmp}
use Rattle.version_ranges.specs.Boundaries.{point_of}
use Rattle.version_ranges.specs.Bounds.{starts_by, goes_on_to, is_within}
use Rattle.version_ranges.specs.Order.{start_point}
use Rattle.version_ranges.specs.OrderLaws.{points_total}
use Rattle.version_ranges.specs.Turns.{reaches}
use Rattle.version_ranges.specs.declared.boundary.Boundary.{Boundary}
use Rattle.version_ranges.proofs.Membership.{reached_itself}
use Rattle.pep508_diagram.specs.declared.branch.Branch.{Branch}
use Rattle.pep508_diagram.specs.Branches.{RisingBranches, branch_at, last_child, AllBranches}
use Rattle.pep508_diagram.specs.Branches.{NeighboursDiffer}
use Rattle.pep508_diagram.proofs.Branching.{not_gt, gt_of, reached, Before, NoneReached, unreached}
use Rattle.pep508_simplification.specs.Within.{behind, up_to}

less_of : (r : Ordering) → is_lt r ≡ true → r ≡ Less
less_of Less e = refl
less_of Equal e = absurd (cc)
less_of Greater e = absurd (cc)

both_of : (a b : Bool) → (a && b) ≡ true → (a ≡ true) × (b ≡ true)
both_of true b e = (refl, e)
both_of false b e = absurd (cc)

both_and : (a b : Bool) → a ≡ true → b ≡ true → (a && b) ≡ true
both_and true b d e = e
both_and false b d e = absurd (cc)

pub last_of : {T C : Type 0} (P : C → Type 0) (first : C) (later : List (Branch T C)) → AllBranches P first later →
    P (last_child first later)
last_of P first [] all = all
last_of P first (b ∷ later) all = last_of P b.child later all.1

module _ {T : Type 0} {cmp : T → T → Ordering} (o : IsTotalOrder cmp) where
  -- ---- points that come up to one another

  pub up_on : (p q r : Point T) → reaches (point_cmp cmp) p q ≡ true → reaches (point_cmp cmp) q r ≡ true →
      reaches (point_cmp cmp) p r ≡ true
  up_on p q r h k =
      ap not (upto (points_total cmp o) p q r (not_gt (point_cmp cmp p q) h) (not_gt (point_cmp cmp q r) k))

  pub up_back : (x p : Point T) → reaches (point_cmp cmp) x p ≡ false → reaches (point_cmp cmp) p x ≡ true
  up_back x p over =
      ap (λ r. not (is_gt r))
      ((points_total cmp o).antisymm p x ∙ ap ordering_reverse (gt_of (point_cmp cmp x p) over))

  less_on : (x p v : Point T) (r : Ordering) → point_cmp cmp x p ≡ r → not (is_gt r) ≡ true →
      point_cmp cmp p v ≡ Less → point_cmp cmp x v ≡ Less
  less_on x p v Less e up less = (points_total cmp o).trans x p v e less
  less_on x p v Equal e up less = (points_total cmp o).congr x p v e ∙ less
  less_on x p v Greater e up less = absurd (cc)

  -- ---- bounds

  pub goes_back : (upper : Bound T) (x p : Point T) → reaches (point_cmp cmp) x p ≡ true →
      goes_on_to cmp upper p ≡ true → goes_on_to cmp upper x ≡ true
  goes_back (Included v) x p up on = up_on x p (At v) up on
  goes_back (Excluded v) x p up on =
      ap is_lt (less_on x p (At v) (point_cmp cmp x p) refl up (less_of (point_cmp cmp p (At v)) on))
  goes_back Unbounded x p up on = refl

  starts_is : (lower : Bound T) (p : Point T) →
      starts_by cmp lower p ≡ reaches (point_cmp cmp) (start_point lower) p
  starts_is (Included v) p = refl
  starts_is (Excluded v) p = refl
  starts_is Unbounded BelowAll = refl
  starts_is Unbounded (At v) = refl
  starts_is Unbounded (JustAbove v) = refl

  module _ (lower upper : Bound T) where
    pub within_of : (p : Point T) → reaches (point_cmp cmp) (start_point lower) p ≡ true →
        goes_on_to cmp upper p ≡ true → is_within cmp (lower, upper) p ≡ true
    within_of p up on = both_and (starts_by cmp lower p) (goes_on_to cmp upper p) (starts_is lower p ∙ up) on

    pub from_within : (p : Point T) → is_within cmp (lower, upper) p ≡ true →
        (reaches (point_cmp cmp) (start_point lower) p ≡ true) × (goes_on_to cmp upper p ≡ true)
    from_within p in_it =
        let both = both_of (starts_by cmp lower p) (goes_on_to cmp upper p) in_it in
        (sym (starts_is lower p) ∙ both.0, both.1)

    pub start_within : goes_on_to cmp upper (start_point lower) ≡ true →
        is_within cmp (lower, upper) (start_point lower) ≡ true
    start_within on = within_of (start_point lower) (reached_itself (points_total cmp o) (start_point lower)) on

    pub start_goes : (q : Point T) → is_within cmp (lower, upper) q ≡ true →
        goes_on_to cmp upper (start_point lower) ≡ true
    start_goes q in_it =
        let both = from_within q in_it in
        goes_back upper (start_point lower) q both.0 both.1

module _ {T C : Type 0} {cmp : T → T → Ordering} (o : IsTotalOrder cmp) where
  -- ---- behind a point

  goes_by : (b : Branch T C) (later : List (Branch T C)) (p : Point T) → reached cmp p b ≡ true →
      behind cmp p (b ∷ later) ≡ behind cmp p later
  goes_by b later p here = rw here refl

  stays_at : (b : Branch T C) (later : List (Branch T C)) (p : Point T) → reached cmp p b ≡ false →
      behind cmp p (b ∷ later) ≡ b ∷ later
  stays_at b later p over = rw over refl

  goes_to : (first : C) (b : Branch T C) (later : List (Branch T C)) (p : Point T) → reached cmp p b ≡ true →
      branch_at cmp first (b ∷ later) p ≡ branch_at cmp b.child later p
  goes_to first b later p here = rw here refl

  stays_first : (first : C) (b : Branch T C) (later : List (Branch T C)) (p : Point T) → reached cmp p b ≡ false →
      branch_at cmp first (b ∷ later) p ≡ first
  stays_first first b later p over = rw over refl

  -- what holds of branches in either way holds behind the point
  behind_by : (P : C → List (Branch T C) → Type 0) → ((c : C) (b : Branch T C) (later : List (Branch T C)) →
      P c (b ∷ later) → P b.child later) → (first : C) (later : List (Branch T C)) (p : Point T) → P first later →
      P (branch_at cmp first later p) (behind cmp p later)
  behind_by P on first [] p all = all
  behind_by P on first (b ∷ later) p all = elim (cases_Bool (reached cmp p b)) [
    | inl here ↦
        subst (λ c. P c (behind cmp p (b ∷ later))) (sym (goes_to first b later p here))
        (subst (P (branch_at cmp b.child later p)) (sym (goes_by b later p here))
        (behind_by P on b.child later p (on first b later all)))
    | inr over ↦
        subst (λ c. P c (behind cmp p (b ∷ later))) (sym (stays_first first b later p over))
        (subst (P first) (sym (stays_at b later p over)) all)
  ]

  pub behind_rises : (first : C) (later : List (Branch T C)) (p : Point T) → RisingBranches cmp later →
      RisingBranches cmp (behind cmp p later)
  behind_rises first later p rises =
      behind_by (λ c l. RisingBranches cmp l) (λ c b l r. r.1) first later p rises

  pub behind_differs : (first : C) (later : List (Branch T C)) (p : Point T) → NeighboursDiffer first later →
      NeighboursDiffer (branch_at cmp first later p) (behind cmp p later)
  behind_differs first later p differ = behind_by NeighboursDiffer (λ c b l d. d.1) first later p differ

  pub behind_children : (P : C → Type 0) (first : C) (later : List (Branch T C)) (p : Point T) →
      AllBranches P first later → AllBranches P (branch_at cmp first later p) (behind cmp p later)
  behind_children P first later p all = behind_by (AllBranches P) (λ c b l d. d.1) first later p all

  pub behind_none : (later : List (Branch T C)) (p : Point T) → RisingBranches cmp later →
      NoneReached cmp p (behind cmp p later)
  behind_none [] p rises = tt
  behind_none (b ∷ later) p rises = elim (cases_Bool (reached cmp p b)) [
    | inl here ↦
        subst (NoneReached cmp p) (sym (goes_by b later p here)) (behind_none later p rises.1)
    | inr over ↦
        subst (NoneReached cmp p) (sym (stays_at b later p over))
        (over, unreached o b.boundary later p over rises.0)
  ]

  -- from the point on nothing changes
  pub behind_at : (first : C) (later : List (Branch T C)) (p q : Point T) → reaches (point_cmp cmp) p q ≡ true →
      branch_at cmp (branch_at cmp first later p) (behind cmp p later) q ≡ branch_at cmp first later q
  behind_at first [] p q up = refl
  behind_at first (b ∷ later) p q up = elim (cases_Bool (reached cmp p b)) [
    | inl here ↦
        let there : reached cmp q b ≡ true = up_on o (point_of b.boundary) p q here up in
        ap (λ c. branch_at cmp c (behind cmp p (b ∷ later)) q) (goes_to first b later p here)
        ∙ ap (λ l. branch_at cmp (branch_at cmp b.child later p) l q) (goes_by b later p here)
        ∙ behind_at b.child later p q up
        ∙ sym (goes_to first b later q there)
    | inr over ↦
        ap (λ c. branch_at cmp c (behind cmp p (b ∷ later)) q) (stays_first first b later p over)
        ∙ ap (λ l. branch_at cmp first l q) (stays_at b later p over)
  ]

  -- ---- up to a bound

  takes : (b : Branch T C) (later : List (Branch T C)) (upper : Bound T) →
      goes_on_to cmp upper (point_of b.boundary) ≡ true →
      up_to cmp upper (b ∷ later) ≡ b ∷ up_to cmp upper later
  takes b later upper on = rw on refl

  ends : (b : Branch T C) (later : List (Branch T C)) (upper : Bound T) →
      goes_on_to cmp upper (point_of b.boundary) ≡ false → up_to cmp upper (b ∷ later) ≡ []
  ends b later upper off = rw off refl

  -- what holds of each branch holds of those up to the bound
  up_to_all : (P : Branch T C → Type 0) (later : List (Branch T C)) (upper : Bound T) → AllByRecursion P later →
      AllByRecursion P (up_to cmp upper later)
  up_to_all P [] upper all = tt
  up_to_all P (b ∷ later) upper all = elim (cases_Bool (goes_on_to cmp upper (point_of b.boundary))) [
    | inl on ↦ subst (AllByRecursion P) (sym (takes b later upper on)) (all.0, up_to_all P later upper all.1)
    | inr off ↦ subst (AllByRecursion P) (sym (ends b later upper off)) tt
  ]

  up_to_before : (t : Boundary T) (later : List (Branch T C)) (upper : Bound T) → Before cmp t later →
      Before cmp t (up_to cmp upper later)
  up_to_before t [] upper all = tt
  up_to_before t (b ∷ later) upper all = elim (cases_Bool (goes_on_to cmp upper (point_of b.boundary))) [
    | inl on ↦ subst (Before cmp t) (sym (takes b later upper on)) (all.0, up_to_before t later upper all.1)
    | inr off ↦ subst (Before cmp t) (sym (ends b later upper off)) tt
  ]

  pub up_to_rises : (later : List (Branch T C)) (upper : Bound T) → RisingBranches cmp later →
      RisingBranches cmp (up_to cmp upper later)
  up_to_rises [] upper rises = tt
  up_to_rises (b ∷ later) upper rises = elim (cases_Bool (goes_on_to cmp upper (point_of b.boundary))) [
    | inl on ↦
        subst (RisingBranches cmp) (sym (takes b later upper on))
        (up_to_before b.boundary later upper rises.0, up_to_rises later upper rises.1)
    | inr off ↦ subst (RisingBranches cmp) (sym (ends b later upper off)) tt
  ]

  pub up_to_differs : (first : C) (later : List (Branch T C)) (upper : Bound T) → NeighboursDiffer first later →
      NeighboursDiffer first (up_to cmp upper later)
  up_to_differs first [] upper differ = tt
  up_to_differs first (b ∷ later) upper differ =
      elim (cases_Bool (goes_on_to cmp upper (point_of b.boundary))) [
        | inl on ↦
            subst (NeighboursDiffer first) (sym (takes b later upper on))
            (differ.0, up_to_differs b.child later upper differ.1)
        | inr off ↦ subst (NeighboursDiffer first) (sym (ends b later upper off)) tt
      ]

  first_one : (P : C → Type 0) (first : C) (later : List (Branch T C)) → AllBranches P first later → P first
  first_one P first [] all = all
  first_one P first (b ∷ later) all = all.0

  pub up_to_children : (P : C → Type 0) (first : C) (later : List (Branch T C)) (upper : Bound T) →
      AllBranches P first later → AllBranches P first (up_to cmp upper later)
  up_to_children P first [] upper all = all
  up_to_children P first (b ∷ later) upper all =
      elim (cases_Bool (goes_on_to cmp upper (point_of b.boundary))) [
        | inl on ↦
            subst (AllBranches P first) (sym (takes b later upper on))
            (all.0, up_to_children P b.child later upper all.1)
        | inr off ↦ subst (AllBranches P first) (sym (ends b later upper off)) all.0
      ]

  pub up_to_none : (later : List (Branch T C)) (upper : Bound T) (p : Point T) → NoneReached cmp p later →
      NoneReached cmp p (up_to cmp upper later)
  up_to_none later upper p none = up_to_all (λ branch. reached cmp p branch ≡ false) later upper none

  -- the bound goes on to each boundary that is kept
  pub up_to_goes : (later : List (Branch T C)) (upper : Bound T) →
      AllByRecursion (λ branch. goes_on_to cmp upper (point_of branch.boundary) ≡ true) (up_to cmp upper later)
  up_to_goes [] upper = tt
  up_to_goes (b ∷ later) upper = elim (cases_Bool (goes_on_to cmp upper (point_of b.boundary))) [
    | inl on ↦
        subst (AllByRecursion (λ branch. goes_on_to cmp upper (point_of branch.boundary) ≡ true))
        (sym (takes b later upper on)) (on, up_to_goes later upper)
    | inr off ↦
        subst (AllByRecursion (λ branch. goes_on_to cmp upper (point_of branch.boundary) ≡ true))
        (sym (ends b later upper off)) tt
  ]

  -- as far as the bound goes nothing changes
  pub up_to_at : (first : C) (later : List (Branch T C)) (upper : Bound T) (p : Point T) →
      goes_on_to cmp upper p ≡ true → branch_at cmp first (up_to cmp upper later) p ≡ branch_at cmp first later p
  up_to_at first [] upper p goes = refl
  up_to_at first (b ∷ later) upper p goes =
      elim (cases_Bool (goes_on_to cmp upper (point_of b.boundary))) [
        | inl on ↦ elim (cases_Bool (reached cmp p b)) [
          | inl up ↦
              ap (λ l. branch_at cmp first l p) (takes b later upper on)
              ∙ goes_to first b (up_to cmp upper later) p up
              ∙ up_to_at b.child later upper p goes ∙ sym (goes_to first b later p up)
          | inr over ↦
              ap (λ l. branch_at cmp first l p) (takes b later upper on)
              ∙ stays_first first b (up_to cmp upper later) p over ∙ sym (stays_first first b later p over)
        ]
        | inr off ↦ elim (cases_Bool (reached cmp p b)) [
          | inl up ↦
              absurd (true≢false (sym (goes_back o upper (point_of b.boundary) p up goes) ∙ off))
          | inr over ↦
              ap (λ l. branch_at cmp first l p) (ends b later upper off) ∙ sym (stays_first first b later p over)
        ]
      ]

  -- ---- at the ends

  -- before the point no branch is reached that isn't reached at the point
  pub none_earlier : (later : List (Branch T C)) (p q : Point T) → reaches (point_cmp cmp) p q ≡ true →
      NoneReached cmp q later → NoneReached cmp p later
  none_earlier [] p q up none = tt
  none_earlier (b ∷ later) p q up none = (
    elim (cases_Bool (reached cmp p b)) [
      | inl here ↦ absurd (true≢false (sym (up_on o (point_of b.boundary) p q here up) ∙ none.0))
      | inr over ↦ over
    ],
    none_earlier later p q up none.1,
  )

  -- where all are reached, the last one stands
  pub all_reached : (first : C) (later : List (Branch T C)) (p : Point T) →
      AllByRecursion (λ branch. reached cmp p branch ≡ true) later →
      branch_at cmp first later p ≡ last_child first later
  all_reached first [] p all = refl
  all_reached first (b ∷ later) p all = goes_to first b later p all.0 ∙ all_reached b.child later p all.1

  pub after_all : (later : List (Branch T C)) (p : Point T) → NoneReached cmp p later →
      AllByRecursion (λ branch. reaches (point_cmp cmp) p (point_of branch.boundary) ≡ true) later
  after_all [] p none = tt
  after_all (b ∷ later) p none = (up_back o (point_of b.boundary) p none.0, after_all later p none.1)

  later_after : (t : Boundary T) (later : List (Branch T C)) → Before cmp t later →
      AllByRecursion (λ branch. reaches (point_cmp cmp) (point_of t) (point_of branch.boundary) ≡ true) later
  later_after t [] before = tt
  later_after t (b ∷ later) before = (ap (λ r. not (is_gt r)) before.0, later_after t later before.1)

  -- from some point on, at the first one or behind it, the last one stands
  pub record IsTowards (start : Point T) (first : C) (later : List (Branch T C)) (Q : Point T → Type 0)
      : Type 0 where
    pub from : Point T
    pub inside : Q from
    pub after : reaches (point_cmp cmp) start from ≡ true
    pub last_is : (q : Point T) → reaches (point_cmp cmp) from q ≡ true →
        branch_at cmp first later q ≡ last_child first later

  pub towards : (Q : Point T → Type 0) (start : Point T) (first : C) (later : List (Branch T C)) →
      RisingBranches cmp later →
      AllByRecursion (λ branch. reaches (point_cmp cmp) start (point_of branch.boundary) ≡ true) later →
      Q start → AllByRecursion (λ branch. Q (point_of branch.boundary)) later → IsTowards start first later Q
  towards Q start first [] rises after here all = record {
    from = start;
    inside = here;
    after = reached_itself (points_total cmp o) start;
    last_is = λ q up. refl;
  }
  towards Q start first (b ∷ later) rises after here all =
      let rest = towards Q (point_of b.boundary) b.child later rises.1 (later_after b.boundary later rises.0) all.0
      all.1 in
      record {
        from = rest.from;
        inside = rest.inside;
        after = up_on o start (point_of b.boundary) rest.from after.0 rest.after;
        last_is = λ q up.
            goes_to first b later q (up_on o (point_of b.boundary) rest.from q rest.after up) ∙ rest.last_is q up;
      }
