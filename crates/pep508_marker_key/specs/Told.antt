-- Bytes that differ where an order differs, whatever follows them.
use Rattle.std.specs.Prelude.{◌≡◌, ◌↔◌, ℕ, List, [], ◌∷◌, ◌++◌}
use Rattle.std.specs.declared.cmp.Ordering.{Ordering}
use Rattle.std.specs.declared.cmp.Ordering.TheVariants.{Equal}
use Rattle.version_ranges.specs.declared.boundary.Boundary.{Boundary}
use Rattle.version_ranges.specs.declared.boundary.Boundary.TheVariants.{At, JustAbove}

-- bytes with others after them are the same exactly where the things are equal and the others the same
abbrev pub TellApart : {X : Type 0} → (X → X → Ordering) → (X → List ℕ) → Type 0
TellApart {X} cmp bytes =
    (x y : X) (more others : List ℕ) →
    (bytes x ++ more ≡ bytes y ++ others) ↔ ((cmp x y ≡ Equal) × (more ≡ others))

-- things one after another, each after a 1, and 0 at their end
abbrev pub listed_bytes : {X : Type 0} → (X → List ℕ) → List X → List ℕ
listed_bytes bytes [] = 0 ∷ []
listed_bytes bytes (x ∷ xs) = 1 ∷ (bytes x ++ listed_bytes bytes xs)

-- an endpoint: whether it is just above its value, and the value
abbrev pub boundary_bytes : {T : Type 0} → (T → List ℕ) → Boundary T → List ℕ
boundary_bytes bytes (At value) = 0 ∷ bytes value
boundary_bytes bytes (JustAbove value) = 1 ∷ bytes value
