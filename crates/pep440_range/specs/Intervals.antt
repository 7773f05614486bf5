-- The intersection of the ranges among releases of intervals' specifiers, and lists of intervals one after
-- another.
use Rattle.std.specs.Prelude.{◌≡◌, ◌<◌, ◌^◌, true, List, [], ◌∷◌, Option}
use Rattle.std.specs.Option.{is_some}
use Rattle.std.specs.List.{AllByRecursion, list_all, list_any}
use Rattle.std.specs.declared.ops.Bound.{Bound}
use Rattle.std.specs.declared.ops.Bound.TheVariants.{Included, Excluded, Unbounded}
use Rattle.version_ranges.specs.Point.{Point}
use Rattle.version_ranges.specs.Bounds.{starts_by, goes_on_to, is_within}
use Rattle.pep440_version.specs.Record.{VersionRecord}
use Rattle.pep440_version.specs.Order.{version_cmp}
use Rattle.pep440_specifier_list.specs.ListBounds.{Interval, gap_specifier}
use Rattle.pep440_range.specs.Ranges.{PointTest, all_hold}

-- the ranges are all there, and share just these points
abbrev pub ShareJust : List (Option PointTest) → PointTest → Type 0
ShareJust ranges test =
    (list_all is_some ranges ≡ true)
    × ((p : Point VersionRecord) → all_hold ranges p ≡ test p)

-- the points between the bounds of some interval
abbrev pub is_in_one : List Interval → PointTest
is_in_one intervals p = list_any (λ interval. is_within version_cmp interval p) intervals

-- a bound's release numbers are of 64 bits
abbrev pub HasNumbers : Bound VersionRecord → Type 0
HasNumbers (Included version) = AllByRecursion (λ number. number < 2 ^ 64) version.release
HasNumbers (Excluded version) = AllByRecursion (λ number. number < 2 ^ 64) version.release
HasNumbers Unbounded = Unit {0}

abbrev pub HaveNumbers : List Interval → Type 0
HaveNumbers = AllByRecursion (λ interval. HasNumbers interval.0 × HasNumbers interval.1)

-- an interval begins and ends no earlier than another one
pub record IsBehind (first next : Interval) : Type 0 where
  pub begins : (p : Point VersionRecord) →
      starts_by version_cmp next.0 p ≡ true → starts_by version_cmp first.0 p ≡ true
  pub ends : (p : Point VersionRecord) →
      goes_on_to version_cmp first.1 p ≡ true → goes_on_to version_cmp next.1 p ≡ true

-- each interval begins and ends no earlier than the one before it
abbrev pub AreBehind : Interval → List Interval → Type 0
AreBehind first [] = Unit {0}
AreBehind first (next ∷ later) = IsBehind first next × AreBehind next later

-- each gap after an upper bound is one version or a minor release: a specifier excludes it
abbrev pub GapsAreSaid : Bound VersionRecord → List Interval → Type 0
GapsAreSaid upper [] = Unit {0}
GapsAreSaid upper (next ∷ later) = (is_some (gap_specifier upper next.0) ≡ true) × GapsAreSaid next.1 later
