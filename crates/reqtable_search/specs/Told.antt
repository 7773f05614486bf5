-- Which versions the range of specifiers decides: of bounded ones, one of which has `<` or `>`, or of others.
use Rattle.std.specs.Prelude.{◌≡◌, ◌==◌, ◌&&◌, ◌||◌, Bool, true, false, not, List, length}
use Rattle.std.specs.Prelude.{Option, Some, None, is_none}
use Rattle.std.specs.List.{list_any}
use Rattle.version_ranges.specs.Held.{holds_at}
use Rattle.version_ranges.specs.Point.{Point, At, point_cmp}
use Rattle.version_ranges.specs.Turns.{reaches}
use Rattle.pep440_version.specs.Order.{version_cmp}
use Rattle.pep440_version.specs.Record.{VersionRecord}
use Rattle.pep440_operator.specs.declared.operator.Operator.{Operator}
use Rattle.pep440_operator.specs.declared.operator.Operator.TheVariants.{ExactEqual, LessThan, GreaterThan}
use Rattle.pep440_operator.specs.declared.operator.Operator.TheVariants.{Equal, EqualStar, NotEqual}
use Rattle.pep440_operator.specs.declared.operator.Operator.TheVariants.{NotEqualStar, TildeEqual}
use Rattle.pep440_operator.specs.declared.operator.Operator.TheVariants.{LessThanEqual, GreaterThanEqual}

-- the operator is `<` or `>`
abbrev pub is_bound : Operator → Bool
is_bound ExactEqual = false
is_bound LessThan = true
is_bound GreaterThan = true
is_bound Equal = false
is_bound EqualStar = false
is_bound NotEqual = false
is_bound NotEqualStar = false
is_bound TildeEqual = false
is_bound LessThanEqual = false
is_bound GreaterThanEqual = false

-- plain: neither a local part nor a post-release
abbrev pub is_plain : VersionRecord → Bool
is_plain version = length version.local == 0 && is_none version.post

-- a range decides each plain version, and if it isn't bounded also post-releases without a local part
abbrev pub is_told : Bool → VersionRecord → Bool
is_told bounded version = length version.local == 0 && (is_none version.post || not bounded)

-- membership in a set changes between a version and a higher one
abbrev pub TurnsBetween : List (Point VersionRecord) → VersionRecord → VersionRecord → Type 0
TurnsBetween set low high = list_any (λ turn. reaches (point_cmp version_cmp) turn (At high)
    && not (reaches (point_cmp version_cmp) turn (At low))) set ≡ true

-- there is a range, which decides the version and doesn't contain it
abbrev pub IsPassed : Bool → Option (List (Point VersionRecord)) → VersionRecord → Type 0
IsPassed bounded None version = ⊥
IsPassed bounded (Some set) version =
    (is_told bounded version ≡ true) × (holds_at version_cmp set (At version) ≡ false)
