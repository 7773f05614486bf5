-- The order of sets: interval by interval, first the lower bounds and then the upper ones, each by points;
-- the first that differ decide, and else the numbers of intervals.
use Rattle.std.specs.Prelude.{ℕ, List, [], ◌∷◌}
use Rattle.std.specs.declared.cmp.Ordering.{Ordering}
use Rattle.std.specs.declared.ops.Bound.{Bound}
use Rattle.std.specs.declared.ops.Bound.TheVariants.{Included, Excluded, Unbounded}
use Rattle.std.specs.Ordering.{then_cmp, on, nat_cmp}
use Rattle.std.specs.Cmp.Lexicographic.{slice_cmp}
use Rattle.version_ranges.specs.Point.{Point, BelowAll, At, JustAbove, point_cmp}
use Rattle.version_ranges.specs.Bounds.{intervals}

-- the point from which a lower bound holds
abbrev pub start_point : {T : Type 0} → Bound T → Point T
start_point (Included v) = At v
start_point (Excluded v) = JustAbove v
start_point Unbounded = BelowAll

-- the point from which an upper bound no longer holds, where there is one
abbrev pub end_points : {T : Type 0} → Bound T → List (Point T)
end_points (Included v) = JustAbove v ∷ []
end_points (Excluded v) = At v ∷ []
end_points Unbounded = []

-- 1 where an upper bound has no end
abbrev pub endless : {T : Type 0} → Bound T → ℕ
endless (Included v) = 0
endless (Excluded v) = 0
endless Unbounded = 1

module _ {T : Type 0} (cmp : T → T → Ordering) where
  -- lower bounds by the points from which they hold
  abbrev pub lower_cmp : Bound T → Bound T → Ordering
  lower_cmp = on start_point (point_cmp cmp)

  -- upper bounds by the points at which they end; one without end comes last
  abbrev pub upper_cmp : Bound T → Bound T → Ordering
  upper_cmp = then_cmp (on endless nat_cmp) (on end_points (slice_cmp (point_cmp cmp)))

  -- intervals by their lower bounds, and then by their upper ones
  abbrev pub interval_cmp : Bound T × Bound T → Bound T × Bound T → Ordering
  interval_cmp =
      then_cmp (on (λ (i : Bound T × Bound T). i.0) lower_cmp)
      (on (λ (i : Bound T × Bound T). i.1) upper_cmp)

  -- sets by their intervals in order, and then by how many there are
  abbrev pub ranges_cmp : List (Point T) → List (Point T) → Ordering
  ranges_cmp = on intervals (slice_cmp interval_cmp)
