-- The points of an order: below all values, at a value, just above a value. A version order has no value
-- "just above" another, so a set that ends there is given by the points that it holds and not by its
-- values.
use Rattle.std.specs.declared.cmp.Ordering.{Ordering}
use Rattle.std.specs.declared.cmp.Ordering.TheVariants.{Less, Equal, Greater}
use Rattle.std.specs.Ordering.{ordering_then}

-- a place in an order: below all of its values, at one of them, or just above one
pub data Point (T : Type 0) : Type 0 where
  BelowAll : Point T
  At : T → Point T
  JustAbove : T → Point T

-- the order of points: "just above v" lies below "at w" for every v before w
abbrev pub point_cmp : {T : Type 0} → (T → T → Ordering) → Point T → Point T → Ordering
point_cmp cmp BelowAll BelowAll = Equal
point_cmp cmp BelowAll (At w) = Less
point_cmp cmp BelowAll (JustAbove w) = Less
point_cmp cmp (At v) BelowAll = Greater
point_cmp cmp (At v) (At w) = cmp v w
point_cmp cmp (At v) (JustAbove w) = ordering_then (cmp v w) Less
point_cmp cmp (JustAbove v) BelowAll = Greater
point_cmp cmp (JustAbove v) (At w) = ordering_then (cmp v w) Greater
point_cmp cmp (JustAbove v) (JustAbove w) = cmp v w
