-- Sets as intervals: which points a pair of bounds holds, and a set's intervals in order, read off its
-- endpoints.
use Rattle.std.specs.Prelude.{Bool, true, ◌&&◌, cond, List, [], ◌∷◌, Option, Some, None}
use Rattle.std.specs.Ordering.{is_eq, is_lt}
use Rattle.std.specs.Range.Bound.{bound_map}
use Rattle.std.specs.Borrow.{Bor}
use Rattle.std.specs.declared.cmp.Ordering.{Ordering}
use Rattle.std.specs.declared.ops.Bound.{Bound}
use Rattle.std.specs.declared.ops.Bound.TheVariants.{Included, Excluded, Unbounded}
use Rattle.version_ranges.specs.Point.{Point, BelowAll, At, JustAbove, point_cmp}
use Rattle.version_ranges.specs.Turns.{reaches}

module _ {T : Type 0} (cmp : T → T → Ordering) where
  -- a lower bound holds from at its value on (included), from just above it (excluded), or from below all
  abbrev pub starts_by : Bound T → Point T → Bool
  starts_by (Included v) p = reaches (point_cmp cmp) (At v) p
  starts_by (Excluded v) p = reaches (point_cmp cmp) (JustAbove v) p
  starts_by Unbounded p = true

  -- an upper bound holds up to at its value (included), all points before that (excluded), or all
  abbrev pub goes_on_to : Bound T → Point T → Bool
  goes_on_to (Included v) p = reaches (point_cmp cmp) p (At v)
  goes_on_to (Excluded v) p = is_lt (point_cmp cmp p (At v))
  goes_on_to Unbounded p = true

  -- the point lies between the two bounds
  abbrev pub is_within : Bound T × Bound T → Point T → Bool
  is_within bounds p = starts_by bounds.0 p && goes_on_to bounds.1 p

  -- the only value of a set that holds one point, at a value
  abbrev pub single_value : List (Point T) → Option T
  single_value (At v ∷ JustAbove w ∷ []) = cond (is_eq (cmp v w)) (Some v) None
  single_value _ = None

-- the lower bound of an interval that begins at an endpoint
abbrev pub lower_bound_at : {T : Type 0} → Point T → Bound T
lower_bound_at BelowAll = Unbounded
lower_bound_at (At v) = Included v
lower_bound_at (JustAbove v) = Excluded v

-- the upper bound of an interval that ends at an endpoint
abbrev pub upper_bound_at : {T : Type 0} → Point T → Bound T
upper_bound_at BelowAll = Unbounded
upper_bound_at (At v) = Excluded v
upper_bound_at (JustAbove v) = Included v

-- the intervals of a set, in order: from every other endpoint on, up to the next one, or without end
abbrev pub intervals : {T : Type 0} → List (Point T) → List (Bound T × Bound T)
intervals [] = []
intervals (lower ∷ []) = (lower_bound_at lower, Unbounded) ∷ []
intervals (lower ∷ upper ∷ later) = (lower_bound_at lower, upper_bound_at upper) ∷ intervals later

-- the upper bound of the last interval, or the one given where there is no interval
abbrev pub last_upper : {T : Type 0} → Bound T → List (Bound T × Bound T) → Bound T
last_upper upper [] = upper
last_upper upper (next ∷ later) = last_upper next.1 later

-- from the lower bound of the first interval to the upper bound of the last
abbrev pub hull : {T : Type 0} → List (Bound T × Bound T) → Option (Bound T × Bound T)
hull [] = None
hull (first ∷ later) = Some (first.0, last_upper first.1 later)

-- a pair of borrowed bounds as a pair of bounds
abbrev pub lent_bounds : {T : Type 0} → Bound (Bor T) × Bound (Bor T) → Bound T × Bound T
lent_bounds pair = (bound_map (λ x. x.now) pair.0, bound_map (λ x. x.now) pair.1)
