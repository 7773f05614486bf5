-- The input to a hash of an endpoint: its kind and its value; and of a set: its intervals in order, and an
-- end mark.
use Rattle.std.specs.Prelude.{ℕ, List, ◌++◌}
use Rattle.std.specs.declared.ops.Bound.{Bound}
use Rattle.std.specs.declared.ops.Bound.TheVariants.{Included, Excluded, Unbounded}
use Rattle.std.specs.Hash as fed
use Rattle.std.specs.List.{flat_map}
use Rattle.version_ranges.specs.declared.boundary.Boundary.{Boundary}
use Rattle.version_ranges.specs.declared.boundary.Boundary.TheVariants as boundary
use Rattle.version_ranges.specs.Point.{Point}
use Rattle.version_ranges.specs.Bounds.{intervals}

module _ {T : Type 0} (input : T → List (List ℕ)) where
  -- the input to a hash of an endpoint: its kind, and its value
  abbrev pub boundary_input : Boundary T → List (List ℕ)
  boundary_input (boundary.At v) = fed.u8 0 ++ input v
  boundary_input (boundary.JustAbove v) = fed.u8 1 ++ input v

  -- the input to a hash of a bound: its kind, and its value
  abbrev pub bound_input : Bound T → List (List ℕ)
  bound_input Unbounded = fed.u8 0
  bound_input (Included v) = fed.u8 1 ++ input v
  bound_input (Excluded v) = fed.u8 2 ++ input v

  -- the input to a hash of an interval: both bounds
  abbrev pub interval_input : Bound T × Bound T → List (List ℕ)
  interval_input i = bound_input i.0 ++ bound_input i.1

  -- the input to a hash of a set
  abbrev pub ranges_input : List (Point T) → List (List ℕ)
  ranges_input set = flat_map interval_input (intervals set) ++ fed.u8 3
