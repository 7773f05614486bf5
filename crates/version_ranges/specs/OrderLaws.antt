-- The orders of points, of endpoints and of sets are total.
use Rattle.std.specs.Prelude.{◌≡◌, ℕ, List, [], ◌∷◌, refl}
use Rattle.std.specs.declared.cmp.Ordering.{Ordering}
use Rattle.std.specs.declared.cmp.Ordering.TheVariants.{Less, Equal, Greater}
use Rattle.std.specs.declared.ops.Bound.{Bound}
use Rattle.std.specs.Ordering.{ordering_then, then_cmp, on, nat_cmp}
use Rattle.std.specs.Cmp.{IsTotalOrder, then_total, on_total, nat_cmp_total}
use Rattle.std.specs.Cmp.Lexicographic.{slice_cmp, lists_total}
use Rattle.std.proofs.Common.{sym, subst}
use Rattle.version_ranges.specs.Point.{Point, BelowAll, At, JustAbove, point_cmp}
use Rattle.version_ranges.specs.Boundaries.{point_of, boundary_cmp}
use Rattle.version_ranges.specs.Bounds.{intervals}
use Rattle.version_ranges.specs.Order.{start_point, end_points, endless, interval_cmp, ranges_cmp}

-- a point as the value that it lies at or above, where there is one, and how far above
value_of : {T : Type 0} → Point T → List T
value_of BelowAll = []
value_of (At v) = v ∷ []
value_of (JustAbove v) = v ∷ []

above_of : {T : Type 0} → Point T → ℕ
above_of BelowAll = 0
above_of (At v) = 0
above_of (JustAbove v) = 1

then_level : (r s : Ordering) → ordering_then (ordering_then r Equal) s ≡ ordering_then r s
then_level Less s = refl
then_level Equal s = refl
then_level Greater s = refl

level_then : (r : Ordering) → ordering_then (ordering_then r Equal) Equal ≡ r
level_then Less = refl
level_then Equal = refl
level_then Greater = refl

module _ {T : Type 0} (cmp : T → T → Ordering) where
  by_parts : (p q : Point T) →
      point_cmp cmp p q ≡ then_cmp (on value_of (slice_cmp cmp)) (on above_of nat_cmp) p q
  unfolding value_of above_of
  by_parts BelowAll BelowAll = refl
  by_parts BelowAll (At w) = refl
  by_parts BelowAll (JustAbove w) = refl
  by_parts (At v) BelowAll = refl
  by_parts (At v) (At w) = sym (level_then (cmp v w))
  by_parts (At v) (JustAbove w) = sym (then_level (cmp v w) Less)
  by_parts (JustAbove v) BelowAll = refl
  by_parts (JustAbove v) (At w) = sym (then_level (cmp v w) Greater)
  by_parts (JustAbove v) (JustAbove w) = sym (level_then (cmp v w))

  module _ (o : IsTotalOrder cmp) where
    pub points_total : IsTotalOrder (point_cmp cmp)
    points_total =
        subst (λ (R : Point T → Point T → Ordering). IsTotalOrder R) (λ i p q. sym (by_parts p q) i)
        (then_total (on_total value_of (lists_total o)) (on_total above_of nat_cmp_total))

    pub boundaries_total : IsTotalOrder (boundary_cmp cmp)
    boundaries_total = on_total point_of points_total

    pub intervals_total : IsTotalOrder (interval_cmp cmp)
    intervals_total =
        then_total
        (on_total (λ (i : Bound T × Bound T). i.0) (on_total start_point points_total))
        (on_total (λ (i : Bound T × Bound T). i.1)
        (then_total (on_total endless nat_cmp_total) (on_total end_points (lists_total points_total))))

    pub ranges_total : IsTotalOrder (ranges_cmp cmp)
    ranges_total = on_total intervals (lists_total intervals_total)
