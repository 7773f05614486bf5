-- The children between endpoints, grouped: the different ones, in the order in which each first occurs, and
-- the points at which one occurs.
use Rattle.std.specs.Prelude.{Bool, not, cond, List, [], ◌∷◌, map}
use Rattle.std.specs.List.{filter}
use Rattle.version_ranges.specs.declared.boundary.Boundary.{Boundary}
use Rattle.version_ranges.specs.Boundaries.{turns_of}
use Rattle.version_ranges.specs.Point.{Point}
use Rattle.version_ranges.specs.Turns.{flips}
use Rattle.pep508_diagram.specs.declared.branch.Branch.{Branch}

-- the first of those that are the same, in their order
abbrev pub firsts : {C : Type 0} → (C → C → Bool) → List C → List C
firsts same [] = []
firsts same (x ∷ xs) = x ∷ filter (λ y. not (same x y)) (firsts same xs)

-- the children between the endpoints, in their order
abbrev pub standing : {T C : Type 0} → C → List (Branch T C) → List C
standing first later = first ∷ map (λ branch. branch.child) later

-- the endpoints at which the result of a test of the child flips; before them it is `held`
abbrev pub turning : {T C : Type 0} → (C → Bool) → Bool → List (Branch T C) → List (Boundary T)
turning test held [] = []
turning test held (branch ∷ later) =
    cond (flips held (test branch.child)) (branch.boundary ∷ turning test (test branch.child) later)
    (turning test held later)

-- the points at which the child passes a test, as a set
abbrev pub points_where : {T C : Type 0} → (C → Bool) → C → List (Branch T C) → List (Point T)
points_where test first later = turns_of (test first) (turning test (test first) later)
