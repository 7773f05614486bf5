-- The points at which what stands between rising boundaries passes a test, and the first things of each kind.
use Rattle.std.proofs.Common.{◌≡◌, ◌⊎◌, inl, inr, Bool, true, false, not, ◌||◌, cond, List, [], ◌∷◌, map}
use Rattle.std.proofs.Common.{refl, sym, ap, ◌∙◌, true≢false}
use Rattle.std.proofs.lemmas.Bool.{cases_Bool}
use Rattle.std.specs.List.{AllByRecursion, list_any, filter}
use Rattle.std.specs.Cmp.{IsTotalOrder}
use Rattle.std.specs.declared.cmp.Ordering.{Ordering}
use Rattle.std.specs.declared.cmp.Ordering.TheVariants.{Less}
use Rattle.version_ranges.specs.declared.boundary.Boundary.{Boundary}
use Rattle.version_ranges.specs.declared.boundary.Boundary.TheVariants as boundary
use Rattle.version_ranges.specs.Boundaries.{point_of, boundary_cmp, turns_of}
use Rattle.version_ranges.specs.Point.{Point, point_cmp}
use Rattle.version_ranges.specs.Turns.{flips, reaches, is_held, Rising}
use Rattle.version_ranges.proofs.Membership.{flips_false}
use Rattle.version_ranges.proofs.Turning.{held_turns, normal_turns}
use Rattle.pep508_diagram.specs.declared.branch.Branch.{Branch}
use Rattle.pep508_diagram.specs.Branches.{RisingBranches, branch_at, AllBranches}
use Rattle.pep508_diagram.specs.Chains.{IsChild}
use Rattle.pep508_diagram.proofs.Branching.{NoneReached, none_reached, unreached}
use Rattle.pep508_marker_text_laws.specs.Groups.{firsts, standing, turning, points_where}
use Rattle.pep508_marker_text_laws.proofs.Removals.{second_holds}
use Rattle.pep508_marker_text_laws.proofs.Said.{GoodPoint}

abbrev pub GoodBoundary : {T : Type 0} → (T → Type 0) → Boundary T → Type 0
GoodBoundary good (boundary.At v) = good v
GoodBoundary good (boundary.JustAbove v) = good v

abbrev pub GoodBranches : {T C : Type 0} → (T → Type 0) → List (Branch T C) → Type 0
GoodBranches good later = AllByRecursion (λ branch. GoodBoundary good branch.boundary) later

-- ---- where a test turns

turned_twice : (held b c : Bool) → flips held b ≡ true → flips held (not c) ≡ flips b c
turned_twice true true c e = absurd (true≢false (sym e))
turned_twice true false true e = refl
turned_twice true false false e = refl
turned_twice false true c e = refl
turned_twice false false c e = absurd (true≢false (sym e))

unturned : (held b : Bool) → flips held b ≡ false → b ≡ held
unturned true true e = refl
unturned true false e = absurd (true≢false e)
unturned false true e = absurd (true≢false e)
unturned false false e = refl

module _ {T C : Type 0} (test : C → Bool) where
  module _ (P : Boundary T → Type 0) where
    -- where a test turns, there is a boundary
    all_turning : (held : Bool) (later : List (Branch T C)) →
        AllByRecursion P (map (λ branch. branch.boundary) later) → AllByRecursion P (turning test held later)
    all_turning held [] h = tt
    all_turning held (branch ∷ later) h =
        turning_one (flips held (test branch.child)) (all_turning (test branch.child) later h.1)
        (all_turning held later h.1)
      where
        turning_one : (b : Bool) → AllByRecursion P (turning test (test branch.child) later) →
            AllByRecursion P (turning test held later) →
            AllByRecursion P (cond b (branch.boundary ∷ turning test (test branch.child) later)
            (turning test held later))
        turning_one true with without = (h.0, with)
        turning_one false with without = without

  -- where it turns, boundaries rise as all do
  rising_turning : (cmp : T → T → Ordering) (held : Bool) (later : List (Branch T C)) →
      RisingBranches cmp later → Rising (boundary_cmp cmp) (turning test held later)
  rising_turning cmp held [] rising = tt
  rising_turning cmp held (branch ∷ later) rising =
      turning_one (flips held (test branch.child)) (rising_turning cmp (test branch.child) later rising.1)
      (rising_turning cmp held later rising.1)
    where
      turning_one : (b : Bool) → Rising (boundary_cmp cmp) (turning test (test branch.child) later) →
          Rising (boundary_cmp cmp) (turning test held later) →
          Rising (boundary_cmp cmp) (cond b (branch.boundary ∷ turning test (test branch.child) later)
          (turning test held later))
      turning_one true with without = (
        all_turning (λ other. boundary_cmp cmp branch.boundary other ≡ Less) (test branch.child) later
            rising.0,
        with,
      )
      turning_one false with without = without

  module _ (cmp : T → T → Ordering) (p : Point T) where
    -- the point is held by an odd number of the boundaries
    abbrev held_by : List (Boundary T) → Bool
    held_by boundaries = is_held (point_cmp cmp) (map point_of boundaries) p

    none_held : (held : Bool) (later : List (Branch T C)) → NoneReached cmp p later →
        held_by (turning test held later) ≡ false
    none_held held [] none = refl
    none_held held (branch ∷ later) none = elim (cases_Bool (flips held (test branch.child))) [
      | inl turns ↦
          rw (turns, none.0) (none_held (test branch.child) later none.1)
      | inr stays ↦ rw stays (none_held held later none.1)
    ]

  module _ {cmp : T → T → Ordering} (o : IsTotalOrder cmp) (p : Point T) where
    turning_held : (held : Bool) (first : C) (later : List (Branch T C)) → test first ≡ held →
        RisingBranches cmp later →
        flips held (held_by cmp p (turning test held later)) ≡ test (branch_at cmp first later p)
    turning_held held first [] is rising = flips_false held ∙ sym is
    turning_held held first (branch ∷ later) is rising =
        elim (cases_Bool (reaches (point_cmp cmp) (point_of branch.boundary) p)) [
          | inl up ↦ elim (cases_Bool (flips held (test branch.child))) [
            | inl turns ↦
                rw (turns, up)
                (turned_twice held (test branch.child)
                (held_by cmp p (turning test (test branch.child) later)) turns
                ∙ turning_held (test branch.child) branch.child later refl rising.1)
            | inr stays ↦
                rw (stays, up)
                (turning_held held branch.child later (unturned held (test branch.child) stays) rising.1)
          ]
          | inr over ↦
              let none : NoneReached cmp p (branch ∷ later) =
              (over, unreached o branch.boundary later p over rising.0) in
              ap (flips held) (none_held cmp p held (branch ∷ later) none) ∙ flips_false held ∙ sym is
              ∙ ap test (sym (none_reached cmp first (branch ∷ later) p none))
        ]

    -- a point is held where what stands there passes the test
    pub where_held : (first : C) (later : List (Branch T C)) → RisingBranches cmp later →
        is_held (point_cmp cmp) (points_where test first later) p ≡ test (branch_at cmp first later p)
    where_held first later rising =
        held_turns cmp (test first) (turning test (test first) later) p
        ∙ turning_held (test first) first later refl rising

  pub where_rises : (cmp : T → T → Ordering) (first : C) (later : List (Branch T C)) →
      RisingBranches cmp later → Rising (point_cmp cmp) (points_where test first later)
  where_rises cmp first later rising =
      normal_turns cmp (test first) (turning test (test first) later)
      (rising_turning cmp (test first) later rising)

good_boundaries : {T C : Type 0} (good : T → Type 0) (later : List (Branch T C)) → GoodBranches good later →
    AllByRecursion (GoodBoundary good) (map (λ branch. branch.boundary) later)
good_boundaries good [] h = tt
good_boundaries good (branch ∷ later) h = (h.0, good_boundaries good later h.1)

good_points : {T : Type 0} (good : T → Type 0) (boundaries : List (Boundary T)) →
    AllByRecursion (GoodBoundary good) boundaries → AllByRecursion (GoodPoint good) (map point_of boundaries)
good_points good [] h = tt
good_points good (boundary.At v ∷ later) h = (h.0, good_points good later h.1)
good_points good (boundary.JustAbove v ∷ later) h = (h.0, good_points good later h.1)

good_turns : {T : Type 0} (good : T → Type 0) (held : Bool) (boundaries : List (Boundary T)) →
    AllByRecursion (GoodBoundary good) boundaries → AllByRecursion (GoodPoint good) (turns_of held boundaries)
good_turns good true boundaries h = (tt, good_points good boundaries h)
good_turns good false boundaries h = good_points good boundaries h

pub where_good : {T C : Type 0} (good : T → Type 0) (test : C → Bool) (first : C) (later : List (Branch T C)) →
    GoodBranches good later → AllByRecursion (GoodPoint good) (points_where test first later)
where_good good test first later h =
    good_turns good (test first) (turning test (test first) later)
    (all_turning test (GoodBoundary good) (test first) later (good_boundaries good later h))

-- ---- the first of each kind

abbrev pub IsIn : {C : Type 0} → C → List C → Type 0
IsIn c [] = ⊥
IsIn c (x ∷ xs) = (c ≡ x) ⊎ IsIn c xs

pub child_in : {T C : Type 0} (c first : C) (later : List (Branch T C)) → IsChild c first later →
    IsIn c (standing first later)
child_in c first [] is = inl is
child_in c first (branch ∷ later) (inl is) = inl is
child_in c first (branch ∷ later) (inr is) = inr (child_in c branch.child later is)

pub standing_all : {T C : Type 0} (P : C → Type 0) (first : C) (later : List (Branch T C)) →
    AllBranches P first later → AllByRecursion P (standing first later)
standing_all P first [] h = (h, tt)
standing_all P first (branch ∷ later) h = (h.0, standing_all P branch.child later h.1)

pub filter_all : {C : Type 0} (P : C → Type 0) (test : C → Bool) (xs : List C) → AllByRecursion P xs →
    AllByRecursion P (filter test xs)
filter_all P test [] h = tt
filter_all P test (x ∷ xs) h = filter_one (test x) (filter_all P test xs h.1)
  where
    filter_one : (b : Bool) → AllByRecursion P (filter test xs) →
        AllByRecursion P (cond b (x ∷ filter test xs) (filter test xs))
    filter_one true later = (h.0, later)
    filter_one false later = later

pub firsts_all : {C : Type 0} (P : C → Type 0) (same : C → C → Bool) (xs : List C) → AllByRecursion P xs →
    AllByRecursion P (firsts same xs)
firsts_all P same [] h = tt
firsts_all P same (x ∷ xs) h =
    (h.0, filter_all P (λ y. not (same x y)) (firsts same xs) (firsts_all P same xs h.1))

module _ {C : Type 0} (same : C → C → Bool) (itself : (x : C) → same x x ≡ true)
    (on : (x y z : C) → same x y ≡ true → same y z ≡ true → same x z ≡ true) where
  filtered_has : (x c : C) (ys : List C) → same x c ≡ false → list_any (λ y. same y c) ys ≡ true →
      list_any (λ y. same y c) (filter (λ y. not (same x y)) ys) ≡ true
  filtered_has x c [] apart e = e
  filtered_has x c (y ∷ ys) apart e = elim (cases_Bool (same x y)) [
    | inl too ↦ elim (cases_Bool (same y c)) [
      | inl here ↦ absurd (true≢false (sym (on x y c too here) ∙ apart))
      | inr not_here ↦
          let later : list_any (λ z. same z c) ys ≡ true =
          sym (ap (λ b. b || list_any (λ z. same z c) ys) not_here) ∙ e in
          rw too (filtered_has x c ys apart later)
    ]
    | inr differs ↦ elim (cases_Bool (same y c)) [
      | inl here ↦ rw (differs, here) refl
      | inr not_here ↦
          let later : list_any (λ z. same z c) ys ≡ true =
          sym (ap (λ b. b || list_any (λ z. same z c) ys) not_here) ∙ e in
          rw differs
          (second_holds (same y c) (list_any (λ z. same z c) (filter (λ z. not (same x z)) ys))
          (filtered_has x c ys apart later))
    ]
  ]

  -- each thing is the same as a first one
  pub firsts_have : (xs : List C) (c : C) → IsIn c xs → list_any (λ x. same x c) (firsts same xs) ≡ true
  firsts_have [] c is = absurd is
  firsts_have (x ∷ xs) c (inl is) =
      ap (λ b. b || list_any (λ y. same y c) (filter (λ y. not (same x y)) (firsts same xs)))
      (ap (same x) is ∙ itself x)
  firsts_have (x ∷ xs) c (inr is) = elim (cases_Bool (same x c)) [
    | inl here ↦ rw here refl
    | inr apart ↦
        second_holds (same x c) (list_any (λ y. same y c) (filter (λ y. not (same x y)) (firsts same xs)))
        (filtered_has x c (firsts same xs) apart (firsts_have xs c is))
  ]
