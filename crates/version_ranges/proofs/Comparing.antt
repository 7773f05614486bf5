-- The order of sets, and the points that they hold.
use Rattle.std.proofs.Common.{◌≡◌, Bool, true, false, cond, not, ◌&&◌, ◌||◌, List, [], ◌∷◌, length, map, refl}
use Rattle.std.proofs.Common.{ap, sym, ◌∙◌}
use Rattle.std.specs.List.{list_any}
use Rattle.std.specs.declared.cmp.Ordering.{Ordering}
use Rattle.std.specs.declared.cmp.Ordering.TheVariants.{Less, Equal, Greater}
use Rattle.std.specs.Prelude.{◌==◌, IsTrue}
use Rattle.std.specs.Ordering.{is_gt, is_lt, is_eq, ordering_then, eq_by_cmp}
use Rattle.std.specs.Cmp.{IsTotalOrder, alike_right, Equal-is, both_ways}
use Rattle.std.specs.Cmp.Lexicographic.{slice_cmp, pointwise, lists_ties}
use mathlib.Core.Bool.{beq}
use Rattle.std.specs.declared.ops.Bound.{Bound}
use Rattle.std.specs.declared.ops.Bound.TheVariants.{Included, Excluded, Unbounded}
use Rattle.version_ranges.specs.Point.{Point, BelowAll, At, JustAbove, point_cmp}
use Rattle.version_ranges.specs.Held.{HoldSamePoints, IsNormal}
use Rattle.version_ranges.specs.Bounds.{starts_by, goes_on_to, is_within, lower_bound_at, upper_bound_at}
use Rattle.version_ranges.specs.Bounds.{intervals}
use Rattle.version_ranges.specs.Order.{start_point, lower_cmp, upper_cmp, interval_cmp, ranges_cmp}
use Rattle.version_ranges.specs.Boundaries.{point_of, boundary_cmp, turns_of}
use Rattle.version_ranges.specs.OrderLaws.{points_total}
use Rattle.version_ranges.specs.HashingLaws.{then_equal}
use Rattle.version_ranges.specs.declared.boundary.Boundary.{Boundary}
use Rattle.version_ranges.specs.declared.boundary.Boundary.TheVariants as boundary
use Rattle.version_ranges.proofs.Membership.{like, canonical, same_points}
use Rattle.version_ranges.proofs.Reading.{held_in_intervals, starts_by_reaches}
use Rattle.version_ranges.proofs.Turning.{turns_cmp, no_more}

level_then : (r : Ordering) → ordering_then r Equal ≡ r
level_then Less = refl
level_then Equal = refl
level_then Greater = refl

-- sets are equal in their order exactly when they hold the same points
module _ {T : Type 0} (cmp : T → T → Ordering) (o : IsTotalOrder cmp) where
  points : IsTotalOrder (point_cmp cmp)
  points = points_total cmp o

  lowers_alike : (a b : Bound T) (p : Point T) → lower_cmp cmp a b ≡ Equal →
      starts_by cmp a p ≡ starts_by cmp b p
  lowers_alike a b p h =
      starts_by_reaches cmp o a p ∙ like (point_cmp cmp) points (start_point a) (start_point b) p h
      ∙ sym (starts_by_reaches cmp o b p)

  uppers_alike : (a b : Bound T) (p : Point T) → upper_cmp cmp a b ≡ Equal →
      goes_on_to cmp a p ≡ goes_on_to cmp b p
  uppers_alike Unbounded Unbounded p h = refl
  uppers_alike Unbounded (Included w) p h = absurd (cc)
  uppers_alike Unbounded (Excluded w) p h = absurd (cc)
  uppers_alike (Included v) Unbounded p h = absurd (cc)
  uppers_alike (Included v) (Included w) p h =
      ap (λ r. not (is_gt r)) (alike_right points (At v) (At w) p (then_equal (cmp v w) Equal h).0)
  uppers_alike (Included v) (Excluded w) p h =
      let l : ordering_then (cmp v w) Greater ≡ Equal =
      (then_equal (ordering_then (cmp v w) Greater) Equal h).0 in
      let k : Greater ≡ Equal = (then_equal (cmp v w) Greater l).1 in absurd (cc)
  uppers_alike (Excluded v) Unbounded p h = absurd (cc)
  uppers_alike (Excluded v) (Included w) p h =
      let l : ordering_then (cmp v w) Less ≡ Equal = (then_equal (ordering_then (cmp v w) Less) Equal h).0 in
      let k : Less ≡ Equal = (then_equal (cmp v w) Less l).1 in absurd (cc)
  uppers_alike (Excluded v) (Excluded w) p h =
      ap is_lt (alike_right points (At v) (At w) p (then_equal (cmp v w) Equal h).0)

  within_alike : (i j : Bound T × Bound T) (p : Point T) → interval_cmp cmp i j ≡ Equal →
      is_within cmp i p ≡ is_within cmp j p
  within_alike i j p h =
      let both = then_equal (lower_cmp cmp i.0 j.0) (upper_cmp cmp i.1 j.1) h in
      (λ k. lowers_alike i.0 j.0 p both.0 k && uppers_alike i.1 j.1 p both.1 k)

  any_alike : (is js : List (Bound T × Bound T)) (p : Point T) → slice_cmp (interval_cmp cmp) is js ≡ Equal →
      list_any (λ i. is_within cmp i p) is ≡ list_any (λ i. is_within cmp i p) js
  any_alike [] [] p h = refl
  any_alike [] (j ∷ js) p h = absurd (cc)
  any_alike (i ∷ is) [] p h = absurd (cc)
  any_alike (i ∷ is) (j ∷ js) p h =
      let both = then_equal (interval_cmp cmp i j) (slice_cmp (interval_cmp cmp) is js) h in
      (λ k. within_alike i j p both.0 k || any_alike is js p both.1 k)

  pub equal_holds : (a b : List (Point T)) → IsNormal cmp a → IsNormal cmp b → ranges_cmp cmp a b ≡ Equal →
      HoldSamePoints cmp a b
  equal_holds a b r s h p =
      sym (held_in_intervals cmp o a p r) ∙ any_alike (intervals a) (intervals b) p h
      ∙ held_in_intervals cmp o b p s

  start_back : (p : Point T) → start_point (lower_bound_at p) ≡ p
  start_back BelowAll = refl
  start_back (At v) = refl
  start_back (JustAbove v) = refl

  starts_tied : (x y : Point T) → point_cmp cmp x y ≡ Equal →
      lower_cmp cmp (lower_bound_at x) (lower_bound_at y) ≡ Equal
  starts_tied x y h = (λ i. point_cmp cmp (start_back x i) (start_back y i)) ∙ h

  ends_tied : (x y : Point T) → point_cmp cmp x y ≡ Equal →
      upper_cmp cmp (upper_bound_at x) (upper_bound_at y) ≡ Equal
  ends_tied BelowAll BelowAll h = refl
  ends_tied BelowAll (At w) h = absurd (cc)
  ends_tied BelowAll (JustAbove w) h = absurd (cc)
  ends_tied (At v) BelowAll h = absurd (cc)
  ends_tied (At v) (At w) h = ap (λ r. ordering_then r Equal) h
  ends_tied (At v) (JustAbove w) h = ap (λ r. ordering_then r Equal) h
  ends_tied (JustAbove v) BelowAll h = absurd (cc)
  ends_tied (JustAbove v) (At w) h = ap (λ r. ordering_then r Equal) h
  ends_tied (JustAbove v) (JustAbove w) h = ap (λ r. ordering_then r Equal) h

  turns_tied : (a b : List (Point T)) → slice_cmp (point_cmp cmp) a b ≡ Equal → ranges_cmp cmp a b ≡ Equal
  turns_tied [] [] h = refl
  turns_tied [] (y ∷ b) h = absurd (cc)
  turns_tied (x ∷ a) [] h = absurd (cc)
  turns_tied (x ∷ []) (y ∷ []) h =
      let e = starts_tied x y (then_equal (point_cmp cmp x y) Equal h).0 in
      ap (λ r. ordering_then (ordering_then r Equal) Equal) e
  turns_tied (x ∷ []) (y ∷ z ∷ b) h = let l : Less ≡ Equal =
      (then_equal (point_cmp cmp x y) Less h).1 in absurd (cc)
  turns_tied (x ∷ w ∷ a) (y ∷ []) h = let l : Greater ≡ Equal =
      (then_equal (point_cmp cmp x y) Greater h).1 in absurd (cc)
  turns_tied (x ∷ w ∷ a) (y ∷ z ∷ b) h =
      let first = then_equal (point_cmp cmp x y)
      (ordering_then (point_cmp cmp w z) (slice_cmp (point_cmp cmp) a b)) h in
      let second = then_equal (point_cmp cmp w z) (slice_cmp (point_cmp cmp) a b) first.1 in
      (λ i. ordering_then (ordering_then (starts_tied x y first.0 i) (ends_tied w z second.0 i))
      (turns_tied a b second.1 i))

  pub same_equal : (a b : List (Point T)) → IsNormal cmp a → IsNormal cmp b → HoldSamePoints cmp a b →
      ranges_cmp cmp a b ≡ Equal
  same_equal a b r s h = turns_tied a b (canonical points a b r s h)

  pub equal_when : (x y : List (Point T)) → IsNormal cmp x → IsNormal cmp y → (r : Ordering) →
      r ≡ ranges_cmp cmp x y → (r ≡ Equal → HoldSamePoints cmp x y) × (HoldSamePoints cmp x y → r ≡ Equal)
  equal_when x y h k r e = (λ t. equal_holds x y h k (sym e ∙ t), λ s. e ∙ same_equal x y h k s)

  -- equality by signs and boundaries is that of points
  lists_equal : (s t : Bool) (a b : List (Boundary T)) →
      (beq s t && pointwise (eq_by_cmp (boundary_cmp cmp)) a b)
      ≡ eq_by_cmp (slice_cmp (point_cmp cmp)) (turns_of s a) (turns_of t b)
  lists_equal true true a b =
      lists_ties (boundary_cmp cmp) (λ x y. refl) a b ∙ ap is_eq (sym (turns_cmp cmp true a b))
  lists_equal false false a b =
      lists_ties (boundary_cmp cmp) (λ x y. refl) a b ∙ ap is_eq (sym (turns_cmp cmp false a b))
  lists_equal true false a [] = refl
  lists_equal true false a (boundary.At w ∷ b) = refl
  lists_equal true false a (boundary.JustAbove w ∷ b) = refl
  lists_equal false true [] b = refl
  lists_equal false true (boundary.At v ∷ a) b = refl
  lists_equal false true (boundary.JustAbove v ∷ a) b = refl

  pub equal_lists : (s t : Bool) (a b : List (Boundary T)) (x y : List (Point T)) (r : Bool) →
      turns_of s a ≡ x →
      turns_of t b ≡ y → IsNormal cmp x → IsNormal cmp y →
      r ≡ (beq s t && pointwise (eq_by_cmp (boundary_cmp cmp)) a b) →
      (r ≡ eq_by_cmp (ranges_cmp cmp) x y)
      × ((IsTrue r → HoldSamePoints cmp x y) × (HoldSamePoints cmp x y → IsTrue r))
  equal_lists s t a b x y r d e m n f =
      let all : r ≡ is_eq (slice_cmp (point_cmp cmp) x y) =
      f ∙ lists_equal s t a b ∙ (λ i. is_eq (slice_cmp (point_cmp cmp) (d i) (e i))) in
      let to : IsTrue r → HoldSamePoints cmp x y =
      λ h. same_points points x y ((Equal-is (slice_cmp (point_cmp cmp) x y)).0 (sym all ∙ h)) in
      let from : HoldSamePoints cmp x y → IsTrue r = λ h. all ∙ ap is_eq (canonical points x y m n h) in (
        both_ways r (is_eq (ranges_cmp cmp x y)) (λ h. ap is_eq (same_equal x y m n (to h)))
            (λ h. from (equal_holds x y m n ((Equal-is (ranges_cmp cmp x y)).0 h))),
        (to, from),
      )

-- the order of sets, boundary by boundary
module _ {T : Type 0} (cmp : T → T → Ordering) where
  level_upper : (x y : Boundary T) →
      upper_cmp cmp (upper_bound_at (point_of x)) (upper_bound_at (point_of y)) ≡ boundary_cmp cmp x y
  level_upper (boundary.At v) (boundary.At w) = level_then (cmp v w)
  level_upper (boundary.At v) (boundary.JustAbove w) = level_then (ordering_then (cmp v w) Less)
  level_upper (boundary.JustAbove v) (boundary.At w) = level_then (ordering_then (cmp v w) Greater)
  level_upper (boundary.JustAbove v) (boundary.JustAbove w) = level_then (cmp v w)

  level_lower : (x y : Boundary T) →
      lower_cmp cmp (lower_bound_at (point_of x)) (lower_bound_at (point_of y)) ≡ boundary_cmp cmp x y
  level_lower (boundary.At v) (boundary.At w) = refl
  level_lower (boundary.At v) (boundary.JustAbove w) = refl
  level_lower (boundary.JustAbove v) (boundary.At w) = refl
  level_lower (boundary.JustAbove v) (boundary.JustAbove w) = refl

  -- two sets whose first lower bounds compare by the first argument
  behind_lower : Ordering → List (Point T) → List (Point T) → Ordering
  behind_lower r [] [] = ordering_then (ordering_then r (upper_cmp cmp Unbounded Unbounded)) Equal
  behind_lower r [] (y ∷ b) =
      ordering_then (ordering_then r (upper_cmp cmp Unbounded (upper_bound_at y)))
      (slice_cmp (interval_cmp cmp) [] (intervals b))
  behind_lower r (x ∷ a) [] =
      ordering_then (ordering_then r (upper_cmp cmp (upper_bound_at x) Unbounded))
      (slice_cmp (interval_cmp cmp) (intervals a) [])
  behind_lower r (x ∷ a) (y ∷ b) =
      ordering_then (ordering_then r (upper_cmp cmp (upper_bound_at x) (upper_bound_at y)))
      (ranges_cmp cmp a b)

  by_lower : (x y : Point T) (a b : List (Point T)) →
      ranges_cmp cmp (x ∷ a) (y ∷ b) ≡ behind_lower (lower_cmp cmp (lower_bound_at x) (lower_bound_at y)) a b
  unfolding behind_lower
  by_lower x y [] [] = refl
  by_lower x y [] (w ∷ b) = refl
  by_lower x y (v ∷ a) [] = refl
  by_lower x y (v ∷ a) (w ∷ b) = refl

  lower_decides : (r : Ordering) → (r ≡ Equal → ⊥) → (a b : List (Point T)) → behind_lower r a b ≡ r
  unfolding behind_lower
  lower_decides Equal h a b = absurd (h refl)
  lower_decides Less h [] [] = refl
  lower_decides Less h [] (y ∷ b) = refl
  lower_decides Less h (x ∷ a) [] = refl
  lower_decides Less h (x ∷ a) (y ∷ b) = refl
  lower_decides Greater h [] [] = refl
  lower_decides Greater h [] (y ∷ b) = refl
  lower_decides Greater h (x ∷ a) [] = refl
  lower_decides Greater h (x ∷ a) (y ∷ b) = refl

  first_decides : (r s : Ordering) → (r ≡ Equal → ⊥) → ordering_then r s ≡ r
  first_decides Less s h = refl
  first_decides Equal s h = absurd (h refl)
  first_decides Greater s h = refl

  turns_first : (held : Bool) (list left : List (Boundary T)) (x : Boundary T) → list ≡ x ∷ left →
      turns_of held (x ∷ left) ≡ turns_of held list
  turns_first held list left x e = ap (turns_of held) (sym e)

  behind_equal : (held : Bool) (x y : Boundary T) (a b : List (Boundary T)) → boundary_cmp cmp x y ≡ Equal →
      ranges_cmp cmp (turns_of held (x ∷ a)) (turns_of held (y ∷ b))
      ≡ ranges_cmp cmp (turns_of (not held) a) (turns_of (not held) b)
  behind_equal true x y a b h =
      ap (λ r. ordering_then r (ranges_cmp cmp (map point_of a) (map point_of b))) (level_upper x y ∙ h)
  behind_equal false x y a b h =
      by_lower (point_of x) (point_of y) (map point_of a) (map point_of b)
      ∙ ap (λ r. behind_lower r (map point_of a) (map point_of b)) (level_lower x y ∙ h)
      ∙ sym (by_lower BelowAll BelowAll (map point_of a) (map point_of b))

  -- equal boundaries leave the comparison to those behind them
  pub compare_behind : (held : Bool) (x y : Boundary T) (a b left right : List (Boundary T)) → left ≡ x ∷ a →
      right ≡ y ∷ b →
      boundary_cmp cmp x y ≡ Equal →
      ranges_cmp cmp (turns_of (not held) a) (turns_of (not held) b)
      ≡ ranges_cmp cmp (turns_of held left) (turns_of held right)
  compare_behind held x y a b left right d e h =
      sym (behind_equal held x y a b h)
      ∙ (λ i. ranges_cmp cmp (turns_first held left a x d i) (turns_first held right b y e i))

  at_first : (held : Bool) (x y : Boundary T) (a b : List (Boundary T)) →
      (boundary_cmp cmp x y ≡ Equal → ⊥) →
      ranges_cmp cmp (turns_of held (x ∷ a)) (turns_of held (y ∷ b)) ≡ boundary_cmp cmp x y
  at_first true x y a b h =
      ap (λ r. ordering_then r (ranges_cmp cmp (map point_of a) (map point_of b))) (level_upper x y)
      ∙ first_decides (boundary_cmp cmp x y) (ranges_cmp cmp (map point_of a) (map point_of b)) h
  at_first false x y a b h =
      by_lower (point_of x) (point_of y) (map point_of a) (map point_of b)
      ∙ ap (λ r. behind_lower r (map point_of a) (map point_of b)) (level_lower x y)
      ∙ lower_decides (boundary_cmp cmp x y) h (map point_of a) (map point_of b)

  -- the first that differ decide
  pub compare_first : (held : Bool) (x y : Boundary T) (a b left right : List (Boundary T)) → left ≡ x ∷ a →
      right ≡ y ∷ b →
      (r : Ordering) → r ≡ boundary_cmp cmp x y → (r ≡ Equal → ⊥) →
      r ≡ ranges_cmp cmp (turns_of held left) (turns_of held right)
  compare_first held x y a b left right d e r f h =
      f ∙ sym (at_first held x y a b (λ k. h (f ∙ k)))
      ∙ (λ i. ranges_cmp cmp (turns_first held left a x d i) (turns_first held right b y e i))

  ends_first : (held : Bool) (y : Boundary T) (b : List (Boundary T)) →
      cond held Greater Less ≡ ranges_cmp cmp (turns_of held []) (turns_of held (y ∷ b))
  ends_first true (boundary.At w) b = refl
  ends_first true (boundary.JustAbove w) b = refl
  ends_first false y [] = refl
  ends_first false y (z ∷ b) = refl

  -- one ends first
  pub compare_end : (held : Bool) (y : Boundary T) (b left right : List (Boundary T)) → length left ≡ 0 →
      right ≡ y ∷ b →
      cond held Greater Less ≡ ranges_cmp cmp (turns_of held left) (turns_of held right)
  compare_end held y b left right d e =
      ends_first held y b
      ∙ (λ i. ranges_cmp cmp (turns_of held (sym (no_more left d) i)) (turns_first held right b y e i))

  -- one begins below all, and the other does not
  pub from_below : (a b : List (Boundary T)) → (length b == 0) ≡ false →
      Less ≡ ranges_cmp cmp (turns_of true a) (turns_of false b)
  from_below a [] h = absurd (cc)
  from_below a (boundary.At w ∷ b) h =
      sym (by_lower BelowAll (At w) (map point_of a) (map point_of b)
      ∙ lower_decides Less (λ e. cc) (map point_of a) (map point_of b))
  from_below a (boundary.JustAbove w ∷ b) h =
      sym (by_lower BelowAll (JustAbove w) (map point_of a) (map point_of b)
      ∙ lower_decides Less (λ e. cc) (map point_of a) (map point_of b))
