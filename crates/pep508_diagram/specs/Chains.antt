-- Branches between rising endpoints as a diagram: whether the variable lies below the first endpoint, and
-- else below the next one, and so on.
use Rattle.std.specs.Prelude.{◌≡◌, ◌⊎◌, List, [], ◌∷◌}
use Rattle.version_ranges.specs.declared.boundary.Boundary.{Boundary}
use Rattle.pep508_diagram.specs.declared.branch.Branch.{Branch}
use Rattle.pep508_diagram.specs.Diagram.{Diagram, Test}

-- the diagram of branches, by the question of an endpoint and the diagram of a child
abbrev pub chain : {T C Q : Type 0} → (Boundary T → Q) → (C → Diagram Q) → C → List (Branch T C) → Diagram Q
chain ask at first [] = at first
chain ask at first (branch ∷ later) = Test (ask branch.boundary) (at first) (chain ask at branch.child later)

-- the child is the first one or one of the others
abbrev pub IsChild : {T C : Type 0} → C → C → List (Branch T C) → Type 0
IsChild child first [] = child ≡ first
IsChild child first (branch ∷ later) = (child ≡ first) ⊎ IsChild child branch.child later
