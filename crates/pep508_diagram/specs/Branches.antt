-- Children between the places of an order: a first one, and others from rising endpoints on.
use Rattle.std.specs.Prelude.{◌≡◌, Bool, not, cond, List, [], ◌∷◌, map}
use Rattle.std.specs.declared.cmp.Ordering.{Ordering}
use Rattle.version_ranges.specs.declared.boundary.Boundary.{Boundary}
use Rattle.version_ranges.specs.Boundaries.{point_of, boundary_cmp}
use Rattle.version_ranges.specs.Point.{Point, point_cmp}
use Rattle.version_ranges.specs.Turns.{reaches, Rising}
use Rattle.pep508_diagram.specs.declared.branch.Branch.{Branch}

-- the endpoints rise
abbrev pub RisingBranches : {T C : Type 0} → (T → T → Ordering) → List (Branch T C) → Type 0
RisingBranches cmp later = Rising (boundary_cmp cmp) (map (λ branch. branch.boundary) later)

-- the child at a point: that of the last endpoint at or before it, and else the first
abbrev pub branch_at : {T C : Type 0} → (T → T → Ordering) → C → List (Branch T C) → Point T → C
branch_at cmp first [] p = first
branch_at cmp first (branch ∷ later) p =
    cond (reaches (point_cmp cmp) (point_of branch.boundary) p) (branch_at cmp branch.child later p) first

-- the last child
abbrev pub last_child : {T C : Type 0} → C → List (Branch T C) → C
last_child first [] = first
last_child first (branch ∷ later) = last_child branch.child later

-- no two neighbours are the same
abbrev pub NeighboursDiffer : {T C : Type 0} → C → List (Branch T C) → Type 0
NeighboursDiffer first [] = Unit {0}
NeighboursDiffer first (branch ∷ later) = (first ≡ branch.child → ⊥) × NeighboursDiffer branch.child later

-- the first and all the others meet the condition
abbrev pub AllBranches : {T C : Type 0} → (C → Type 0) → C → List (Branch T C) → Type 0
AllBranches P first [] = P first
AllBranches P first (branch ∷ later) = P first × AllBranches P branch.child later

-- true and false in alternation, from each endpoint on the other one
abbrev pub by_turns : {T : Type 0} → Bool → List (Boundary T) → List (Branch T Bool)
by_turns first [] = []
by_turns first (boundary ∷ later) =
    record { boundary = boundary; child = not first } ∷ by_turns (not first) later
