-- Endpoints as the program keeps them, each at a value or just above one, and their points.
use Rattle.std.specs.Prelude.{Bool, true, false, List, ◌∷◌, map}
use Rattle.std.specs.Ordering.{on}
use Rattle.std.specs.declared.cmp.Ordering.{Ordering}
use Rattle.version_ranges.specs.declared.boundary.Boundary.{Boundary}
use Rattle.version_ranges.specs.declared.boundary.Boundary.TheVariants as boundary
use Rattle.version_ranges.specs.Point.{Point, BelowAll, At, JustAbove, point_cmp}

-- the point of an endpoint
abbrev pub point_of : {T : Type 0} → Boundary T → Point T
point_of (boundary.At v) = At v
point_of (boundary.JustAbove v) = JustAbove v

-- endpoints by their points
abbrev pub boundary_cmp : {T : Type 0} → (T → T → Ordering) → Boundary T → Boundary T → Ordering
boundary_cmp cmp = on point_of (point_cmp cmp)

-- the model of a set: the points at which membership flips, the point below all first where the set holds
-- it
abbrev pub turns_of : {T : Type 0} → Bool → List (Boundary T) → List (Point T)
turns_of true boundaries = BelowAll ∷ map point_of boundaries
turns_of false boundaries = map point_of boundaries
