-- Sets by the endpoints at which membership flips, over any order: from each of them on, what was held is
-- not, and what was not is.
use Rattle.std.specs.Prelude.{◌≡◌, Bool, true, false, not, List, [], ◌∷◌}
use Rattle.std.specs.List.{AllByRecursion}
use Rattle.std.specs.declared.cmp.Ordering.{Ordering}
use Rattle.std.specs.declared.cmp.Ordering.TheVariants.{Less}
use Rattle.std.specs.Ordering.{is_gt}

-- a membership, flipped where the test holds
abbrev pub flips : Bool → Bool → Bool
flips true b = not b
flips false b = b

-- one place is at another or before it
abbrev pub reaches : {K : Type 0} → (K → K → Ordering) → K → K → Bool
reaches R turn point = not (is_gt (R turn point))

-- a place is held where an odd number of endpoints are at or before it
abbrev pub is_held : {K : Type 0} → (K → K → Ordering) → List K → K → Bool
is_held R [] point = false
is_held R (turn ∷ turns) point = flips (reaches R turn point) (is_held R turns point)

-- each endpoint comes before those after it
abbrev pub Rising : {K : Type 0} → (K → K → Ordering) → List K → Type 0
Rising R [] = Unit {0}
Rising R (turn ∷ turns) = AllByRecursion (λ later. R turn later ≡ Less) turns × Rising R turns
