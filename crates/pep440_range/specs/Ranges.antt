-- The points that specifiers hold: by PEP 440, "Version specifiers", and among releases alone. A range is
-- missing where a number that has to be raised is the greatest of 64 bits.
use Rattle.std.specs.Prelude.{◌≡◌, ℕ, Bool, true, false, not, if◌then◌else◌, List}
use Rattle.std.specs.Prelude.{Option, Some, None, Result, Ok, Err}
use Rattle.std.specs.Option.{option_map, is_some}
use Rattle.std.specs.List.{list_all}
use Rattle.std.specs.Ordering.{is_eq}
use Rattle.std.specs.declared.ops.Bound.{Bound}
use Rattle.std.specs.declared.ops.Bound.TheVariants.{Included, Excluded}
use Rattle.version_ranges.specs.Point.{Point, At, point_cmp}
use Rattle.version_ranges.specs.Held.{holds_at}
use Rattle.version_ranges.specs.Bounds.{starts_by, goes_on_to, is_within}
use Rattle.pep440_version.specs.Record.{VersionRecord, release_record, epoch_record}
use Rattle.pep440_version.specs.Changes.{is_prerelease}
use Rattle.pep440_text.specs.Releases.{raised, last_raised}
use Rattle.pep440_version.specs.Order.{version_cmp}
use Rattle.pep440_operator.specs.declared.operator.Operator.{Operator}
use Rattle.pep440_operator.specs.declared.operator.Operator.TheVariants.{Equal, EqualStar, ExactEqual}
use Rattle.pep440_operator.specs.declared.operator.Operator.TheVariants.{NotEqual, NotEqualStar, TildeEqual}
use Rattle.pep440_operator.specs.declared.operator.Operator.TheVariants.{LessThan, LessThanEqual}
use Rattle.pep440_operator.specs.declared.operator.Operator.TheVariants.{GreaterThan, GreaterThanEqual}
use Rattle.pep440_specifier.specs.Matching.{SpecifierRecord, without_last}
use Rattle.pep440_range.specs.declared.range_error.RangeError.{RangeError}
use Rattle.pep440_range.specs.declared.range_error.RangeError.TheVariants.{NumberAtEnd, Memory}

-- which points a range holds
abbrev pub PointTest : Type 0
PointTest = Point VersionRecord → Bool

-- the point at a version
abbrev pub at_version : VersionRecord → PointTest
at_version version p = is_eq (point_cmp version_cmp p (At version))

-- the points that a bound leaves
abbrev pub from_bound : Bound VersionRecord → PointTest
from_bound = starts_by version_cmp

abbrev pub to_bound : Bound VersionRecord → PointTest
to_bound = goes_on_to version_cmp

-- the points from a version on to below another
abbrev pub up_to : VersionRecord → VersionRecord → PointTest
up_to first end = is_within version_cmp (Included first, Excluded end)

abbrev pub all_but : PointTest → PointTest
all_but test p = not (test p)

-- ---- the ranges of PEP 440

-- the first developmental release of an epoch and release numbers, which comes before all that begins so
abbrev pub first_of : ℕ → List ℕ → VersionRecord
first_of epoch numbers = record (epoch_record epoch numbers) { dev = Some 0 }

-- what begins with the release numbers of a version of epoch and release alone
abbrev pub star_range : VersionRecord → Option PointTest
star_range version =
    option_map (λ end. up_to (first_of version.epoch version.release) (first_of version.epoch end))
    (last_raised version.release)

-- the points from a version on, as far as all its release numbers but the last are kept
abbrev pub compatible_range : VersionRecord → Option PointTest
compatible_range version =
    option_map (λ end. up_to version (first_of version.epoch end))
    (last_raised (without_last version.release))

-- the upper bound of what is below a version, without the pre-releases of one that is not a pre-release
abbrev pub end_of_less : VersionRecord → VersionRecord
end_of_less version = if is_prerelease version then version else record version { least = Some 0 }

-- what is above a version: for a developmental or a post-release from the next one on, and else what is not
-- a post-release of it
abbrev pub greater_range : VersionRecord → Option ℕ → Option ℕ → Option PointTest
greater_range version (Some dev) post =
    option_map (λ next. from_bound (Included (record version { dev = Some next }))) (raised dev)
greater_range version None (Some post) =
    option_map (λ next. from_bound (Included (record version { post = Some next }))) (raised post)
greater_range version None None = Some (from_bound (Excluded (record version { most = Some 0 })))

-- the range of an operator and a version
abbrev pub range_by : Operator → VersionRecord → Option PointTest
range_by Equal version = Some (at_version version)
range_by EqualStar version = star_range version
range_by ExactEqual version = Some (at_version version)
range_by NotEqual version = Some (all_but (at_version version))
range_by NotEqualStar version = option_map all_but (star_range version)
range_by TildeEqual version = compatible_range version
range_by LessThan version = Some (to_bound (Excluded (end_of_less version)))
range_by LessThanEqual version = Some (to_bound (Included version))
range_by GreaterThan version = greater_range version version.dev version.post
range_by GreaterThanEqual version = Some (from_bound (Included version))

abbrev pub range_of : SpecifierRecord → Option PointTest
range_of specifier = range_by specifier.operator specifier.version

-- ---- the ranges of releases alone

-- what begins with some release numbers
abbrev pub star_releases : List ℕ → Option PointTest
star_releases release =
    option_map (λ end. up_to (release_record release) (release_record end)) (last_raised release)

abbrev pub compatible_releases : List ℕ → Option PointTest
compatible_releases release =
    option_map (λ end. up_to (release_record release) (release_record end))
    (last_raised (without_last release))

-- the range of an operator and release numbers
abbrev pub release_range_by : Operator → List ℕ → Option PointTest
release_range_by Equal release = Some (at_version (release_record release))
release_range_by EqualStar release = star_releases release
release_range_by ExactEqual release = Some (at_version (release_record release))
release_range_by NotEqual release = Some (all_but (at_version (release_record release)))
release_range_by NotEqualStar release = option_map all_but (star_releases release)
release_range_by TildeEqual release = compatible_releases release
release_range_by LessThan release = Some (to_bound (Excluded (release_record release)))
release_range_by LessThanEqual release = Some (to_bound (Included (release_record release)))
release_range_by GreaterThan release = Some (from_bound (Excluded (release_record release)))
release_range_by GreaterThanEqual release = Some (from_bound (Included (release_record release)))

-- the version's epoch, suffixes and local part are dropped first
abbrev pub release_range_of : SpecifierRecord → Option PointTest
release_range_of specifier = release_range_by specifier.operator specifier.version.release

-- ---- results

-- whether there is a range and it holds a point
abbrev pub range_holds : Option PointTest → Point VersionRecord → Bool
range_holds None p = false
range_holds (Some test) p = test p

-- all ranges hold a point
abbrev pub all_hold : List (Option PointTest) → PointTest
all_hold ranges p = list_all (λ range. range_holds range p) ranges

-- a result holds the points of the range, and is an error where there is none; only lack of memory leaves
-- both open
abbrev pub Gives : Result (List (Point VersionRecord)) RangeError → Option PointTest → Type 0
Gives (Ok set) range =
    (is_some range ≡ true)
    × ((p : Point VersionRecord) → holds_at version_cmp set p ≡ range_holds range p)
Gives (Err NumberAtEnd) range = is_some range ≡ false
Gives (Err Memory) range = Unit {0}

-- a result holds the points that are in all of the ranges, and is an error where one is missing
abbrev pub GivesAll : Result (List (Point VersionRecord)) RangeError → List (Option PointTest) → Type 0
GivesAll (Ok set) ranges =
    (list_all is_some ranges ≡ true)
    × ((p : Point VersionRecord) → holds_at version_cmp set p ≡ all_hold ranges p)
GivesAll (Err NumberAtEnd) ranges = list_all is_some ranges ≡ false
GivesAll (Err Memory) ranges = Unit {0}
