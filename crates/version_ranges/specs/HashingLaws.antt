-- What is equal in its order is hashed alike.
use Rattle.std.specs.Prelude.{◌≡◌, ℕ, Bool, true, List, [], ◌∷◌, ◌++◌, refl}
use Rattle.std.specs.declared.cmp.Ordering.{Ordering}
use Rattle.std.specs.declared.cmp.Ordering.TheVariants.{Less, Equal, Greater}
use Rattle.std.specs.declared.ops.Bound.{Bound}
use Rattle.std.specs.declared.ops.Bound.TheVariants.{Included, Excluded, Unbounded}
use Rattle.std.specs.Ordering.{ordering_then, eq_by_cmp, is_eq}
use Rattle.std.specs.Cmp.{Equal-is}
use Rattle.std.specs.Cmp.Lexicographic.{slice_cmp}
use Rattle.std.specs.Hash as fed
use Rattle.std.specs.List.{flat_map}
use Rattle.std.proofs.Common.{ap, sym, ◌∙◌}
use mathlib.Core.Bool.{true≢false}
use Rattle.version_ranges.specs.declared.boundary.Boundary.{Boundary}
use Rattle.version_ranges.specs.declared.boundary.Boundary.TheVariants as boundary
use Rattle.version_ranges.specs.Point.{Point}
use Rattle.version_ranges.specs.Boundaries.{boundary_cmp}
use Rattle.version_ranges.specs.Bounds.{intervals}
use Rattle.version_ranges.specs.Order.{lower_cmp, upper_cmp, interval_cmp, ranges_cmp}
use Rattle.version_ranges.specs.Hashing.{boundary_input, bound_input, interval_input, ranges_input}

not_less : {A : Type 0} → Less ≡ Equal → A
not_less e = absurd (true≢false (sym (ap is_eq e)))

not_greater : {A : Type 0} → Greater ≡ Equal → A
not_greater e = absurd (true≢false (sym (ap is_eq e)))

-- two comparisons one after the other are equal where both are
pub then_equal : (r s : Ordering) → ordering_then r s ≡ Equal → (r ≡ Equal) × (s ≡ Equal)
then_equal Less s h = not_less h
then_equal Equal s h = (refl, h)
then_equal Greater s h = not_greater h

module _ {T : Type 0} (cmp : T → T → Ordering) (eq : T → T → Bool) (input : T → List (List ℕ))
    (ties : (x y : T) → eq x y ≡ eq_by_cmp cmp x y) (alike : (x y : T) → eq x y ≡ true → input x ≡ input y)
  where
    values_fed : (x y : T) → cmp x y ≡ Equal → input x ≡ input y
    values_fed x y h = alike x y (ties x y ∙ ap is_eq h)

    boundaries_fed : (a b : Boundary T) → boundary_cmp cmp a b ≡ Equal →
        boundary_input input a ≡ boundary_input input b
    boundaries_fed (boundary.At v) (boundary.At w) h = ap (λ i. fed.u8 0 ++ i) (values_fed v w h)
    boundaries_fed (boundary.At v) (boundary.JustAbove w) h = not_less (then_equal (cmp v w) Less h).1
    boundaries_fed (boundary.JustAbove v) (boundary.At w) h = not_greater (then_equal (cmp v w) Greater h).1
    boundaries_fed (boundary.JustAbove v) (boundary.JustAbove w) h =
        ap (λ i. fed.u8 1 ++ i) (values_fed v w h)

    pub alike_boundaries : (a b : Boundary T) → eq_by_cmp (boundary_cmp cmp) a b ≡ true →
        boundary_input input a ≡ boundary_input input b
    alike_boundaries a b h = boundaries_fed a b ((Equal-is (boundary_cmp cmp a b)).0 h)

    lowers_fed : (a b : Bound T) → lower_cmp cmp a b ≡ Equal → bound_input input a ≡ bound_input input b
    lowers_fed Unbounded Unbounded h = refl
    lowers_fed Unbounded (Included w) h = not_less h
    lowers_fed Unbounded (Excluded w) h = not_less h
    lowers_fed (Included v) Unbounded h = not_greater h
    lowers_fed (Included v) (Included w) h = ap (λ i. fed.u8 1 ++ i) (values_fed v w h)
    lowers_fed (Included v) (Excluded w) h = not_less (then_equal (cmp v w) Less h).1
    lowers_fed (Excluded v) Unbounded h = not_greater h
    lowers_fed (Excluded v) (Included w) h = not_greater (then_equal (cmp v w) Greater h).1
    lowers_fed (Excluded v) (Excluded w) h = ap (λ i. fed.u8 2 ++ i) (values_fed v w h)

    ends_fed : (a b : Bound T) → upper_cmp cmp a b ≡ Equal → bound_input input a ≡ bound_input input b
    ends_fed Unbounded Unbounded h = refl
    ends_fed Unbounded (Included w) h = not_greater h
    ends_fed Unbounded (Excluded w) h = not_greater h
    ends_fed (Included v) Unbounded h = not_less h
    ends_fed (Included v) (Included w) h =
        ap (λ i. fed.u8 1 ++ i) (values_fed v w (then_equal (cmp v w) Equal h).0)
    ends_fed (Included v) (Excluded w) h =
        let l : ordering_then (cmp v w) Greater ≡ Equal =
        (then_equal (ordering_then (cmp v w) Greater) Equal h).0 in
        not_greater (then_equal (cmp v w) Greater l).1
    ends_fed (Excluded v) Unbounded h = not_less h
    ends_fed (Excluded v) (Included w) h =
        let l : ordering_then (cmp v w) Less ≡ Equal =
        (then_equal (ordering_then (cmp v w) Less) Equal h).0 in
        not_less (then_equal (cmp v w) Less l).1
    ends_fed (Excluded v) (Excluded w) h =
        ap (λ i. fed.u8 2 ++ i) (values_fed v w (then_equal (cmp v w) Equal h).0)

    intervals_fed : (i j : Bound T × Bound T) → interval_cmp cmp i j ≡ Equal →
        interval_input input i ≡ interval_input input j
    intervals_fed i j h =
        let both = then_equal (lower_cmp cmp i.0 j.0) (upper_cmp cmp i.1 j.1) h in
        (λ k. lowers_fed i.0 j.0 both.0 k ++ ends_fed i.1 j.1 both.1 k)

    lists_fed : (is js : List (Bound T × Bound T)) → slice_cmp (interval_cmp cmp) is js ≡ Equal →
        flat_map (interval_input input) is ≡ flat_map (interval_input input) js
    lists_fed [] [] h = refl
    lists_fed [] (j ∷ js) h = not_less h
    lists_fed (i ∷ is) [] h = not_greater h
    lists_fed (i ∷ is) (j ∷ js) h =
        let both = then_equal (interval_cmp cmp i j) (slice_cmp (interval_cmp cmp) is js) h in
        (λ k. intervals_fed i j both.0 k ++ lists_fed is js both.1 k)

    pub alike_ranges : (a b : List (Point T)) → eq_by_cmp (ranges_cmp cmp) a b ≡ true →
        ranges_input input a ≡ ranges_input input b
    alike_ranges a b h =
        ap (λ intervals_input. intervals_input ++ fed.u8 3)
        (lists_fed (intervals a) (intervals b) ((Equal-is (ranges_cmp cmp a b)).0 h))
