-- Points that lie alike beside the releases that a comparison names are held alike by it.
use Rattle.std.proofs.Common.{◌≡◌, ◌∙◌, ℕ, Bool, true, false, not, ◌&&◌, ◌||◌, if◌then◌else◌, List, [], ◌∷◌}
use Rattle.std.proofs.Common.{◌++◌, Option, Some, None, refl, ap, ap₂, sym}
use Rattle.std.specs.List.{AllByRecursion, list_all}
use Rattle.std.specs.Option.{option_map, is_some}
use Rattle.std.specs.Prelude.{option_to_list, drop}
use Rattle.std.specs.declared.ops.Bound.TheVariants.{Included, Excluded}
use Rattle.version_ranges.specs.Point.{Point}
use Rattle.pep440_text.specs.Record.{VersionRecord, release_record}
use Rattle.pep440_version.specs.Changes.{or_zero}
use Rattle.pep440_text.specs.Releases.{last_raised}
use Rattle.pep440_version.specs.Order.{stripped, version_cmp}
use Rattle.pep440_version.specs.OrderLaws.{version_cmp_total}
use Rattle.pep440_operator.specs.declared.operator.Operator.{Operator}
use Rattle.pep440_operator.specs.declared.operator.Operator.TheVariants.{Equal, EqualStar, ExactEqual}
use Rattle.pep440_operator.specs.declared.operator.Operator.TheVariants.{NotEqual, NotEqualStar, TildeEqual}
use Rattle.pep440_operator.specs.declared.operator.Operator.TheVariants.{LessThan, LessThanEqual}
use Rattle.pep440_operator.specs.declared.operator.Operator.TheVariants.{GreaterThan, GreaterThanEqual}
use Rattle.pep440_specifier.specs.Matching.{SpecifierRecord, without_last}
use Rattle.pep440_range.specs.Ranges.{PointTest, all_but, at_version, up_to, from_bound, to_bound}
use Rattle.pep440_range.specs.Ranges.{release_range_by, star_releases}
use Rattle.pep508_marker.specs.declared.keys.MarkerValueVersion.{MarkerValueVersion}
use Rattle.pep508_marker.specs.declared.keys.MarkerValueVersion.TheVariants.{ImplementationVersion}
use Rattle.pep508_marker.specs.declared.keys.MarkerValueVersion.TheVariants.{PythonFullVersion, PythonVersion}
use Rattle.pep508_comparison.specs.Comparisons.{minor_of, in_minor, from_next_minor, before_next_minor}
use Rattle.pep508_comparison.specs.Comparisons.{python_points, python_points_past, python_points_by}
use Rattle.pep508_comparison.specs.Comparisons.{compared_numbers, is_zero, is_minor, negated_points, listed}
use Rattle.pep508_comparison.specs.Comparisons.{listed_minors, some_holds, python_listed_points, nowhere}
use Rattle.pep508_expression.specs.Expressions.{or_nowhere, compared_points, listed_points}
use Rattle.pep508_expression.proofs.Points.{points_or_nowhere}
use Rattle.pep508_reading_back.specs.Told.{next_release, releases_beside, asked_releases}
use Rattle.pep508_reading_back.proofs.ToldPoints.{all_parts, AlikeAt, alike_at, alike_below, alike_up_to}

module _ (p q : Point VersionRecord) where
  -- the points lie alike beside a release
  abbrev pub AlikeBeside : List ℕ → Type 0
  AlikeBeside numbers = AlikeAt version_cmp p q (release_record numbers)

  -- a range that is there holds both points, or none of them
  abbrev HeldAlike : Option PointTest → Type 0
  HeldAlike points = or_nowhere points p ≡ or_nowhere points q

  record Beside (numbers : List ℕ) : Type 0 where
    itself : AlikeBeside numbers
    minor : AlikeBeside (minor_of numbers)
    next : AllByRecursion AlikeBeside (next_release numbers)
    next_shorter : AllByRecursion AlikeBeside (next_release (without_last numbers))
    next_minor : AllByRecursion AlikeBeside (next_release (minor_of numbers))

  beside : (numbers : List ℕ) → AllByRecursion AlikeBeside (releases_beside numbers) → Beside numbers
  beside numbers all =
      let first = all_parts AlikeBeside (next_release numbers)
      (next_release (without_last numbers) ++ next_release (minor_of numbers)) all.1.1 in
      let second = all_parts AlikeBeside (next_release (without_last numbers))
      (next_release (minor_of numbers)) first.1
      in
      record {
        itself = all.0;
        minor = all.1.0;
        next = first.0;
        next_shorter = second.0;
        next_minor = second.1;
      }

  -- ---- ranges

  spanned : (numbers : List ℕ) (end : Option (List ℕ)) → AlikeBeside numbers →
      AllByRecursion AlikeBeside (option_to_list end) →
      HeldAlike (option_map (λ last. up_to (release_record numbers) (release_record last)) end)
  spanned numbers None alike ends = refl
  spanned numbers (Some last) alike ends =
      ap₂ (λ a b. a && b) alike.0
      (alike_below version_cmp version_cmp_total p q (release_record last) ends.0)

  others : (points : Option PointTest) → HeldAlike points → HeldAlike (option_map all_but points)
  others None alike = refl
  others (Some points) alike = ap not alike

  from_next : (end : Option (List ℕ)) → AllByRecursion AlikeBeside (option_to_list end) →
      HeldAlike (option_map (λ last. from_bound (Included (release_record last))) end)
  from_next None ends = refl
  from_next (Some last) ends = ends.0.0

  before_next : (end : Option (List ℕ)) → AllByRecursion AlikeBeside (option_to_list end) →
      HeldAlike (option_map (λ last. to_bound (Excluded (release_record last))) end)
  before_next None ends = refl
  before_next (Some last) ends = alike_below version_cmp version_cmp_total p q (release_record last) ends.0

  one : (numbers : List ℕ) → AlikeBeside numbers → HeldAlike (Some (at_version (release_record numbers)))
  one numbers alike = alike_at version_cmp version_cmp_total p q (release_record numbers) alike

  star : (numbers : List ℕ) → Beside numbers → HeldAlike (star_releases numbers)
  star numbers b = spanned numbers (last_raised numbers) b.itself b.next

  release_alike : (operator : Operator) (numbers : List ℕ) → Beside numbers →
      HeldAlike (release_range_by operator numbers)
  release_alike Equal numbers b = one numbers b.itself
  release_alike EqualStar numbers b = star numbers b
  release_alike ExactEqual numbers b = one numbers b.itself
  release_alike NotEqual numbers b =
      others (Some (at_version (release_record numbers))) (one numbers b.itself)
  release_alike NotEqualStar numbers b = others (star_releases numbers) (star numbers b)
  release_alike TildeEqual numbers b =
      spanned numbers (last_raised (without_last numbers)) b.itself b.next_shorter
  release_alike LessThan numbers b =
      alike_below version_cmp version_cmp_total p q (release_record numbers) b.itself
  release_alike LessThanEqual numbers b =
      alike_up_to version_cmp version_cmp_total p q (release_record numbers) b.itself
  release_alike GreaterThan numbers b = b.itself.1
  release_alike GreaterThanEqual numbers b = b.itself.0

  -- ---- `python_version`

  in_one : (numbers : List ℕ) → Beside numbers → HeldAlike (in_minor numbers)
  in_one numbers b = spanned (minor_of numbers) (last_raised (minor_of numbers)) b.minor b.next_minor

  before : (numbers : List ℕ) → Beside numbers → HeldAlike (before_next_minor numbers)
  before numbers b = before_next (last_raised (minor_of numbers)) b.next_minor

  behind : (numbers : List ℕ) → Beside numbers → HeldAlike (from_next_minor numbers)
  behind numbers b = from_next (last_raised (minor_of numbers)) b.next_minor

  python_alike : (operator : Operator) (numbers : List ℕ) → Beside numbers →
      HeldAlike (python_points operator numbers)
  python_alike Equal numbers b = in_one numbers b
  python_alike EqualStar numbers b = star numbers b
  python_alike ExactEqual numbers b = in_one numbers b
  python_alike NotEqual numbers b = others (in_minor numbers) (in_one numbers b)
  python_alike NotEqualStar numbers b = others (star_releases numbers) (star numbers b)
  python_alike TildeEqual numbers b = release_alike TildeEqual numbers b
  python_alike LessThan numbers b = release_alike LessThan numbers b
  python_alike LessThanEqual numbers b = before numbers b
  python_alike GreaterThan numbers b = behind numbers b
  python_alike GreaterThanEqual numbers b = release_alike GreaterThanEqual numbers b

  one_of : (test : Bool) (first second : Option PointTest) → HeldAlike first → HeldAlike second →
      HeldAlike (if test then first else second)
  one_of true first second a b = a
  one_of false first second a b = b

  past_alike : (operator : Operator) (numbers : List ℕ) → Beside numbers →
      HeldAlike (python_points_past operator numbers)
  past_alike Equal numbers b = refl
  past_alike EqualStar numbers b = refl
  past_alike ExactEqual numbers b = refl
  past_alike NotEqual numbers b = refl
  past_alike NotEqualStar numbers b = refl
  past_alike TildeEqual numbers b =
      one_of (list_all is_zero (drop 2 numbers)) (in_minor numbers) (Some nowhere) (in_one numbers b) refl
  past_alike LessThan numbers b = before numbers b
  past_alike LessThanEqual numbers b = before numbers b
  past_alike GreaterThan numbers b = behind numbers b
  past_alike GreaterThanEqual numbers b = behind numbers b

  by_alike : (operator : Operator) (numbers : List ℕ) → Beside numbers →
      HeldAlike (python_points_by operator numbers)
  by_alike operator numbers b =
      one_of (is_minor numbers) (python_points operator numbers) (python_points_past operator numbers)
      (python_alike operator numbers b) (past_alike operator numbers b)

  compared_beside : (operator : Operator) (numbers : List ℕ) → Beside numbers →
      Beside (or_zero (stripped numbers)) → Beside (compared_numbers operator numbers)
  compared_beside Equal numbers b c = c
  compared_beside EqualStar numbers b c = b
  compared_beside ExactEqual numbers b c = c
  compared_beside NotEqual numbers b c = c
  compared_beside NotEqualStar numbers b c = b
  compared_beside TildeEqual numbers b c = b
  compared_beside LessThan numbers b c = c
  compared_beside LessThanEqual numbers b c = c
  compared_beside GreaterThan numbers b c = c
  compared_beside GreaterThanEqual numbers b c = c

  record BesideBoth (numbers : List ℕ) : Type 0 where
    given : Beside numbers
    short : Beside (or_zero (stripped numbers))

  beside_both : (numbers : List ℕ) → AllByRecursion AlikeBeside (asked_releases numbers) → BesideBoth numbers
  beside_both numbers all =
      let parts = all_parts AlikeBeside (releases_beside numbers)
      (releases_beside (or_zero (stripped numbers))) all in
      record {
        given = beside numbers parts.0;
        short = beside (or_zero (stripped numbers)) parts.1;
      }

  compared_by : (key : MarkerValueVersion) (specifier : SpecifierRecord) →
      BesideBoth specifier.version.release → HeldAlike (compared_points key specifier)
  compared_by ImplementationVersion s b = release_alike s.operator s.version.release b.given
  compared_by PythonFullVersion s b = release_alike s.operator s.version.release b.given
  compared_by PythonVersion s b =
      by_alike s.operator (compared_numbers s.operator s.version.release)
      (compared_beside s.operator s.version.release b.given b.short)

  -- a comparison with a version
  pub compared_alike : (key : MarkerValueVersion) (specifier : SpecifierRecord) →
      AllByRecursion AlikeBeside (asked_releases specifier.version.release) →
      or_nowhere (compared_points key specifier) p ≡ or_nowhere (compared_points key specifier) q
  compared_alike key specifier all = compared_by key specifier (beside_both specifier.version.release all)

  -- ---- lists of versions

  abbrev pub AlikeListed : VersionRecord → Type 0
  AlikeListed version =
      AlikeAt version_cmp p q version × AllByRecursion AlikeBeside (asked_releases version.release)

  listed_alike : (versions : List VersionRecord) → AllByRecursion AlikeListed versions →
      listed versions p ≡ listed versions q
  listed_alike [] all = refl
  listed_alike (version ∷ versions) all =
      ap₂ (λ a b. a || b) (alike_at version_cmp version_cmp_total p q version all.0.0)
      (listed_alike versions all.1)

  minors_alike : (versions : List VersionRecord) → AllByRecursion AlikeListed versions →
      some_holds (listed_minors versions) p ≡ some_holds (listed_minors versions) q
  minors_alike [] all = refl
  minors_alike (version ∷ versions) all =
      let points = in_minor version.release in
      ap₂ (λ a b. a || b)
      (sym (points_or_nowhere points p)
      ∙ in_one version.release (beside_both version.release all.0.1).given ∙ points_or_nowhere points q)
      (minors_alike versions all.1)

  negated_alike : (negated : Bool) (points : PointTest) → points p ≡ points q →
      HeldAlike (Some (negated_points negated points))
  negated_alike true points alike = ap not alike
  negated_alike false points alike = alike

  pythons_alike : (negated : Bool) (versions : List VersionRecord) → AllByRecursion AlikeListed versions →
      HeldAlike (python_listed_points negated versions)
  pythons_alike negated versions all =
      let points = some_holds (listed_minors versions) in
      let there = Some (negated_points negated points) in
      one_of (not (list_all (λ version. is_minor version.release) versions)) (Some nowhere)
      (if list_all is_some (listed_minors versions) then there else None) refl
      (one_of (list_all is_some (listed_minors versions)) there None
      (negated_alike negated points (minors_alike versions all)) refl)

  -- a comparison with a list of versions
  pub list_alike : (key : MarkerValueVersion) (negated : Bool) (versions : List VersionRecord) →
      AllByRecursion AlikeListed versions →
      or_nowhere (listed_points key negated versions) p ≡ or_nowhere (listed_points key negated versions) q
  list_alike ImplementationVersion negated versions all =
      negated_alike negated (listed versions) (listed_alike versions all)
  list_alike PythonFullVersion negated versions all =
      negated_alike negated (listed versions) (listed_alike versions all)
  list_alike PythonVersion negated versions all = pythons_alike negated versions all
