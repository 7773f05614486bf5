-- Answers that hold the points of any of several sets.
use Rattle.std.specs.Prelude.{◌≡◌, true, false, List, Option, Result, Ok, Err}
use Rattle.std.specs.Option.{is_some}
use Rattle.std.specs.List.{list_all}
use Rattle.version_ranges.specs.Point.{Point}
use Rattle.version_ranges.specs.Held.{holds_at}
use Rattle.pep440_text.specs.Record.{VersionRecord}
use Rattle.pep440_version.specs.Order.{version_cmp}
use Rattle.pep440_range.specs.Ranges.{PointTest}
use Rattle.pep440_range.specs.declared.range_error.RangeError.{RangeError}
use Rattle.pep440_range.specs.declared.range_error.RangeError.TheVariants.{NumberAtEnd, Memory}
use Rattle.pep508_comparison.specs.Comparisons.{some_holds}

-- a result holds the points that are in any of the sets, and is an error where one of them is missing; only
-- lack of memory leaves both open
abbrev pub GivesAny : Result (List (Point VersionRecord)) RangeError → List (Option PointTest) → Type 0
GivesAny (Ok set) tests =
    (list_all is_some tests ≡ true)
    × ((p : Point VersionRecord) → holds_at version_cmp set p ≡ some_holds tests p)
GivesAny (Err NumberAtEnd) tests = list_all is_some tests ≡ false
GivesAny (Err Memory) tests = Unit {0}
