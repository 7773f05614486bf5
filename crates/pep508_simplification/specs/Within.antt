-- The part of branches between rising endpoints that lies between two bounds.
use Rattle.std.specs.Prelude.{cond, List, [], ◌∷◌}
use Rattle.std.specs.declared.cmp.Ordering.{Ordering}
use Rattle.std.specs.declared.ops.Bound.{Bound}
use Rattle.version_ranges.specs.Boundaries.{point_of}
use Rattle.version_ranges.specs.Bounds.{goes_on_to}
use Rattle.version_ranges.specs.Point.{Point, point_cmp}
use Rattle.version_ranges.specs.Turns.{reaches}
use Rattle.pep508_diagram.specs.declared.branch.Branch.{Branch}

module _ {T C : Type 0} (cmp : T → T → Ordering) where
  -- the branches from the first endpoint on that is above the point
  abbrev pub behind : Point T → List (Branch T C) → List (Branch T C)
  behind p [] = []
  behind p (branch ∷ later) =
      cond (reaches (point_cmp cmp) (point_of branch.boundary) p) (behind p later) (branch ∷ later)

  -- the branches before the first endpoint at which the bound doesn't hold
  abbrev pub up_to : Bound T → List (Branch T C) → List (Branch T C)
  up_to upper [] = []
  up_to upper (branch ∷ later) =
      cond (goes_on_to cmp upper (point_of branch.boundary)) (branch ∷ up_to upper later) []
