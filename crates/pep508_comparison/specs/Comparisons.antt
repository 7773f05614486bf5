-- Which versions a comparison of a key holds (PEP 508, "Environment Markers"), as points of their order. They
-- are missing where a number that has to be raised is the greatest of 64 bits.
use Rattle.std.specs.Prelude.{ℕ, ◌==◌, Bool, true, false, not, if◌then◌else◌, nat_lt, List, [], ◌∷◌, length}
use Rattle.std.specs.Prelude.{drop, map}
use Rattle.std.specs.Prelude.{Option, Some, None}
use Rattle.std.specs.List.{list_all, list_any}
use Rattle.std.specs.Option.{option_map, is_some}
use Rattle.std.specs.declared.ops.Bound.TheVariants.{Included, Excluded}
use Rattle.pep440_text.specs.Record.{VersionRecord, release_record}
use Rattle.pep440_version.specs.Order.{stripped}
use Rattle.pep440_version.specs.Changes.{or_zero}
use Rattle.pep440_text.specs.Releases.{last_raised}
use Rattle.pep440_specifier.specs.Matching.{SpecifierRecord}
use Rattle.pep440_range.specs.Ranges.{PointTest, at_version, from_bound, to_bound, all_but, range_holds}
use Rattle.pep440_range.specs.Ranges.{release_range_by, star_releases}
use Rattle.pep440_operator.specs.declared.operator.Operator.{Operator}
use Rattle.pep440_operator.specs.declared.operator.Operator.TheVariants.{Equal, EqualStar, ExactEqual}
use Rattle.pep440_operator.specs.declared.operator.Operator.TheVariants.{NotEqual, NotEqualStar, TildeEqual}
use Rattle.pep440_operator.specs.declared.operator.Operator.TheVariants.{LessThan, LessThanEqual}
use Rattle.pep440_operator.specs.declared.operator.Operator.TheVariants.{GreaterThan, GreaterThanEqual}

abbrev pub everywhere : PointTest
everywhere p = true

abbrev pub nowhere : PointTest
nowhere p = false

-- ---- `python_version`, whose values are the first two numbers of `python_full_version`

-- the first two numbers, the second 0 where it is not written
abbrev pub minor_of : List ℕ → List ℕ
minor_of [] = 0 ∷ 0 ∷ []
minor_of (major ∷ []) = major ∷ 0 ∷ []
minor_of (major ∷ minor ∷ numbers) = major ∷ minor ∷ []

-- the full versions of one minor release, from the next one on, and before the next one
abbrev pub in_minor : List ℕ → Option PointTest
in_minor numbers = star_releases (minor_of numbers)

abbrev pub from_next_minor : List ℕ → Option PointTest
from_next_minor numbers =
    option_map (λ end. from_bound (Included (release_record end))) (last_raised (minor_of numbers))

abbrev pub before_next_minor : List ℕ → Option PointTest
before_next_minor numbers =
    option_map (λ end. to_bound (Excluded (release_record end))) (last_raised (minor_of numbers))

-- compared with one number or two
abbrev pub python_points : Operator → List ℕ → Option PointTest
python_points Equal numbers = in_minor numbers
python_points EqualStar numbers = star_releases numbers
python_points ExactEqual numbers = in_minor numbers
python_points NotEqual numbers = option_map all_but (in_minor numbers)
python_points NotEqualStar numbers = option_map all_but (star_releases numbers)
python_points TildeEqual numbers = release_range_by TildeEqual numbers
python_points LessThan numbers = release_range_by LessThan numbers
python_points LessThanEqual numbers = before_next_minor numbers
python_points GreaterThan numbers = from_next_minor numbers
python_points GreaterThanEqual numbers = release_range_by GreaterThanEqual numbers

abbrev pub is_zero : ℕ → Bool
is_zero number = number == 0

-- compared with three numbers or more, which no value has: no value equals it, and each lies below or above
-- it as its first two numbers do
abbrev pub python_points_past : Operator → List ℕ → Option PointTest
python_points_past Equal numbers = Some nowhere
python_points_past EqualStar numbers = Some nowhere
python_points_past ExactEqual numbers = Some nowhere
python_points_past NotEqual numbers = Some everywhere
python_points_past NotEqualStar numbers = Some everywhere
python_points_past TildeEqual numbers =
    if list_all is_zero (drop 2 numbers) then in_minor numbers else Some nowhere
python_points_past LessThan numbers = before_next_minor numbers
python_points_past LessThanEqual numbers = before_next_minor numbers
python_points_past GreaterThan numbers = from_next_minor numbers
python_points_past GreaterThanEqual numbers = from_next_minor numbers

-- zeros at the end of a release mean nothing, except with a star and `~=`, where the number of numbers
-- counts
abbrev pub compared_numbers : Operator → List ℕ → List ℕ
compared_numbers Equal numbers = or_zero (stripped numbers)
compared_numbers EqualStar numbers = numbers
compared_numbers ExactEqual numbers = or_zero (stripped numbers)
compared_numbers NotEqual numbers = or_zero (stripped numbers)
compared_numbers NotEqualStar numbers = numbers
compared_numbers TildeEqual numbers = numbers
compared_numbers LessThan numbers = or_zero (stripped numbers)
compared_numbers LessThanEqual numbers = or_zero (stripped numbers)
compared_numbers GreaterThan numbers = or_zero (stripped numbers)
compared_numbers GreaterThanEqual numbers = or_zero (stripped numbers)

-- whether at most two numbers are written
abbrev pub is_minor : List ℕ → Bool
is_minor numbers = nat_lt (length numbers) 3

abbrev pub python_points_by : Operator → List ℕ → Option PointTest
python_points_by operator numbers =
    if is_minor numbers then python_points operator numbers else python_points_past operator numbers

-- the full versions for which `python_version` compares so
abbrev pub python_version_points : SpecifierRecord → Option PointTest
python_version_points specifier =
    python_points_by specifier.operator (compared_numbers specifier.operator specifier.version.release)

-- ---- lists of versions, by `in` and `not in`

-- the points of a list, or all others
abbrev pub negated_points : Bool → PointTest → PointTest
negated_points true points = all_but points
negated_points false points = points

-- the listed versions
abbrev pub listed : List VersionRecord → PointTest
listed versions p = list_any (λ version. at_version version p) versions

-- the listed minor releases; one that is written with three numbers or more makes the comparison hold
-- nowhere, and then none is looked at
abbrev pub listed_minors : List VersionRecord → List (Option PointTest)
listed_minors versions = map (λ version. in_minor version.release) versions

abbrev pub some_holds : List (Option PointTest) → PointTest
some_holds tests p = list_any (λ test. range_holds test p) tests

abbrev pub python_listed_points : Bool → List VersionRecord → Option PointTest
python_listed_points negated versions =
    if not (list_all (λ version. is_minor version.release) versions) then Some nowhere
    else (if list_all is_some (listed_minors versions)
    then Some (negated_points negated (some_holds (listed_minors versions)))
    else None)
