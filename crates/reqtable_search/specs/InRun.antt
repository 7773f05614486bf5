-- The candidates of a package from the highest version down, and the indices of those that a range doesn't
-- decide.
use Rattle.std.specs.Prelude.{◌≡◌, ◌⊎◌, ◌<◌, ℕ, suc, Bool, true, false, List, [], ◌∷◌, length, get_or}
use Rattle.std.specs.Prelude.{Option, Some, None, if◌then◌else◌}
use Rattle.std.specs.List.{AllByRecursion}
use Rattle.std.specs.Ordering.{is_le}
use Rattle.version_ranges.specs.Held.{holds_at}
use Rattle.version_ranges.specs.Point.{Point, At}
use Rattle.pep440_version.specs.Order.{version_cmp}
use Rattle.pep440_version.specs.Record.{VersionRecord}
use Rattle.reqtable_candidates.specs.declared.ordered.Placed.{Placed}
use Rattle.reqtable_search.specs.Told.{is_told, TurnsBetween}

abbrev pub version_of : Placed → VersionRecord
version_of placed = placed.candidate.now.version

-- no version is higher than one before it
abbrev pub Falls : List Placed → Type 0
Falls [] = Unit {0}
Falls (x ∷ xs) =
    AllByRecursion (λ y. is_le (version_cmp (version_of y) (version_of x)) ≡ true) xs × Falls xs

-- the indices, from a number on, of the candidates that a range doesn't decide
abbrev pub untold_from : Bool → ℕ → List Placed → List ℕ
untold_from bounded n [] = []
untold_from bounded n (x ∷ xs) =
    if is_told bounded (version_of x) then untold_from bounded (suc n) xs
    else n ∷ untold_from bounded (suc n) xs

-- the indices that a range doesn't decide, for specifiers without `<` and `>` and for those with one
pub record IsRun (placed : List Placed) (untold untold_by_bounds : List ℕ) : Type 0 where
  pub falls : Falls placed
  pub untold_are : untold ≡ untold_from false 0 placed
  pub bounded_are : untold_by_bounds ≡ untold_from true 0 placed

-- a place is one of some places
pub record IsOneOf (places : List ℕ) (place : ℕ) : Type 0 where
  pub at : ℕ
  pub within : at < length places
  pub is : place ≡ get_or places at place

-- a range doesn't decide the lower of two versions, or membership in it changes between them
abbrev pub MayDiffer : Bool → List (Point VersionRecord) → VersionRecord → VersionRecord → Type 0
MayDiffer bounded set low high = (is_told bounded low ≡ false) ⊎ TurnsBetween set low high

-- after a candidate that is not in the range, the search stops at no candidate that could be skipped
abbrev pub StopsLate : Bool → Option (List (Point VersionRecord)) → List Placed → ℕ → ℕ → Type 0
StopsLate bounded None placed at next = Unit {0}
StopsLate bounded (Some set) placed at next =
    (d : Placed) → holds_at version_cmp set (At (version_of (get_or placed at d))) ≡ false →
    next < length placed →
    MayDiffer bounded set (version_of (get_or placed next d)) (version_of (get_or placed at d))
