-- The ranges among releases of an interval's specifiers share just the interval.
use Rattle.std.proofs.Common.{◌≡◌, ℕ, Bool, true, false, not, ◌&&◌, if◌then◌else◌, List, [], ◌∷◌, ◌++◌}
use Rattle.std.proofs.Common.{map, option_to_list, Some, None, refl, ap, sym, ◌∙◌}
use Rattle.std.proofs.lemmas.List.{map-append}
use Rattle.std.proofs.lemmas.List.Folds.{list_all-append}
use Rattle.std.specs.Option.{is_some, option_map}
use Rattle.std.specs.List.{list_all}
use Rattle.std.specs.declared.cmp.Ordering.{Ordering}
use Rattle.std.specs.declared.cmp.Ordering.TheVariants.{Less, Equal, Greater}
use Rattle.std.specs.declared.ops.Bound.{Bound}
use Rattle.std.specs.declared.ops.Bound.TheVariants.{Included, Excluded, Unbounded}
use Rattle.std.specs.Ordering.{ordering_reverse, is_eq, is_lt, is_gt}
use Rattle.version_ranges.specs.Point.{Point, At, point_cmp}
use Rattle.version_ranges.specs.Bounds.{starts_by, goes_on_to, is_within}
use Rattle.pep440_version.specs.Record.{VersionRecord, release_record}
use Rattle.pep440_version.specs.Order.{version_cmp, version_eq}
use Rattle.pep440_operator.specs.declared.operator.Operator.TheVariants as operators
use Rattle.pep440_specifier.specs.Matching.{SpecifierRecord}
use Rattle.pep440_specifier.specs.Bounds.{IsReleaseVersion, IsReleaseBound, lower_specifier}
use Rattle.pep440_specifier.specs.Bounds.{upper_specifier, next_minor, equals_release, single_or_bounds}
use Rattle.pep440_specifier.specs.Bounds.{interval_specifiers}
use Rattle.pep440_range.specs.Ranges.{PointTest, range_holds, at_version, up_to, release_range_of}
use Rattle.pep440_range.specs.Ranges.{star_releases}
use Rattle.pep440_range.specs.Intervals.{ShareJust, HasNumbers}
use Rattle.pep440_range.proofs.Orderings.{and_true}
use Rattle.pep440_range.proofs.Complements.{turned}
use Rattle.pep440_range.proofs.NextNumbers.{equal_points, minor_raised}

-- ---- lists of specifiers

-- the ranges among releases of these specifiers share just these points
abbrev pub Say : List SpecifierRecord → PointTest → Type 0
Say specifiers test = ShareJust (map release_range_of specifiers) test

pub say_nothing : Say [] (λ p. true)
say_nothing = (refl, λ p. refl)

pub say_one : (specifier : SpecifierRecord) (range test : PointTest) → release_range_of specifier
    ≡ Some range
    → ((p : Point VersionRecord) → range p ≡ test p) → Say (specifier ∷ []) test
say_one specifier range test e h = (
  ap (λ r. is_some r && true) e,
  λ p. ap (λ r. range_holds r p && true) e ∙ and_true (range p) ∙ h p,
)

pub say_both : (ones others : List SpecifierRecord) (test other : PointTest) → Say ones test
    → Say others other
    → Say (ones ++ others) (λ p. test p && other p)
say_both ones others test other s t =
    let split = map-append release_range_of ones others in
    let front = map release_range_of ones in
    let back = map release_range_of others in (
      ap (list_all is_some) split ∙ list_all-append is_some front back ∙ (λ i. s.0 i && t.0 i),
      λ p. ap (list_all (λ range. range_holds range p)) split
          ∙ list_all-append (λ range. range_holds range p) front back
          ∙ (λ i. s.1 p i && t.1 p i),
    )

pub say_as : (specifiers : List SpecifierRecord) (test other : PointTest) → Say specifiers test
    → ((p : Point VersionRecord) → test p ≡ other p) → Say specifiers other
say_as specifiers test other s h = (s.0, λ p. s.1 p ∙ h p)

-- ---- a specifier of each bound

say_lower : (lower : Bound VersionRecord) → IsReleaseBound lower
    → Say (option_to_list (lower_specifier lower)) (starts_by version_cmp lower)
say_lower (Included version) own =
    let start : VersionRecord = release_record version.release in
    say_one (record { operator = operators.GreaterThanEqual; version = version })
    (starts_by version_cmp (Included start)) (starts_by version_cmp (Included version)) refl
    (λ p. ap (λ (v : VersionRecord). starts_by version_cmp (Included v) p) (sym own))
say_lower (Excluded version) own =
    let start : VersionRecord = release_record version.release in
    say_one (record { operator = operators.GreaterThan; version = version })
    (starts_by version_cmp (Excluded start)) (starts_by version_cmp (Excluded version)) refl
    (λ p. ap (λ (v : VersionRecord). starts_by version_cmp (Excluded v) p) (sym own))
say_lower Unbounded own = say_nothing

say_upper : (upper : Bound VersionRecord) → IsReleaseBound upper
    → Say (option_to_list (upper_specifier upper)) (goes_on_to version_cmp upper)
say_upper (Included version) own =
    let end : VersionRecord = release_record version.release in
    say_one (record { operator = operators.LessThanEqual; version = version })
    (goes_on_to version_cmp (Included end)) (goes_on_to version_cmp (Included version)) refl
    (λ p. ap (λ (v : VersionRecord). goes_on_to version_cmp (Included v) p) (sym own))
say_upper (Excluded version) own =
    let end : VersionRecord = release_record version.release in
    say_one (record { operator = operators.LessThan; version = version })
    (goes_on_to version_cmp (Excluded end)) (goes_on_to version_cmp (Excluded version)) refl
    (λ p. ap (λ (v : VersionRecord). goes_on_to version_cmp (Excluded v) p) (sym own))
say_upper Unbounded own = say_nothing

say_bounds : (lower upper : Bound VersionRecord) → IsReleaseBound lower → IsReleaseBound upper
    → Say (single_or_bounds None lower upper) (is_within version_cmp (lower, upper))
say_bounds lower upper own other =
    say_both (option_to_list (lower_specifier lower)) (option_to_list (upper_specifier upper))
    (starts_by version_cmp lower)
    (goes_on_to version_cmp upper) (say_lower lower own) (say_upper upper other)

-- ---- one specifier

level_between : (o : Ordering) → is_eq o ≡ (not (is_gt (ordering_reverse o)) && not (is_gt o))
level_between Less = refl
level_between Equal = refl
level_between Greater = refl

-- a version alone
point_between : (lower upper : VersionRecord) (p : Point VersionRecord) → version_eq lower upper ≡ true
    → at_version lower p ≡ is_within version_cmp (Included lower, Included upper) p
point_between lower upper p h =
    let same = equal_points lower upper p h in
    let start = turned (At lower) p in
    level_between (point_cmp version_cmp p (At lower))
    ∙ (λ i. not (is_gt (sym start i)) && not (is_gt (same i)))

say_point : (lower upper : VersionRecord) (t : Bool) → version_eq lower upper ≡ t → IsReleaseVersion lower
    → IsReleaseVersion upper
    → Say (single_or_bounds (if t then Some (record { operator = operators.Equal; version = lower }) else
    None) (Included lower) (Included upper))
    (is_within version_cmp (Included lower, Included upper))
say_point lower upper false h own other = say_bounds (Included lower) (Included upper) own other
say_point lower upper true h own other =
    say_one (record { operator = operators.Equal; version = lower })
    (at_version (release_record lower.release))
    (is_within version_cmp (Included lower, Included upper)) refl
    (λ p. ap (λ (v : VersionRecord). at_version v p) (sym own) ∙ point_between lower upper p h)

-- what begins like a version of two numbers
pub minor_range : (version next : VersionRecord) → equals_release (next_minor version.release) next ≡ true
    → IsReleaseVersion version
    → HasNumbers (Excluded next)
    → (range : PointTest) × (star_releases version.release ≡ Some range)
    × ((p : Point VersionRecord) → range p ≡ is_within version_cmp (Included version, Excluded next) p)
minor_range version next h own numbers =
    let found = minor_raised version.release next h numbers in
    let start : VersionRecord = release_record version.release in
    let end : VersionRecord = release_record found.0 in (
      up_to start end,
      ap (option_map (λ (last : List ℕ). up_to start (release_record last))) found.1,
      λ p.
          let first = ap (λ (v : VersionRecord). starts_by version_cmp (Included v) p) (sym own) in
          let last = ap is_lt (equal_points end next p found.2) in
          λ i. first i && last i,
    )

say_minor : (lower upper : VersionRecord) (t : Bool) → equals_release (next_minor lower.release) upper ≡ t
    → IsReleaseVersion lower → IsReleaseVersion upper
    → HasNumbers (Excluded upper)
    → Say (single_or_bounds (if t then Some (record { operator = operators.EqualStar; version = lower })
    else None) (Included lower) (Excluded upper))
    (is_within version_cmp (Included lower, Excluded upper))
say_minor lower upper false h own other numbers = say_bounds (Included lower) (Excluded upper) own other
say_minor lower upper true h own other numbers =
    let found = minor_range lower upper h own numbers in
    say_one (record { operator = operators.EqualStar; version = lower }) found.0
    (is_within version_cmp (Included lower, Excluded upper)) found.1 found.2

-- ---- an interval

pub say_interval : (lower upper : Bound VersionRecord) → IsReleaseBound lower → IsReleaseBound upper
    → HasNumbers upper
    → Say (interval_specifiers lower upper) (is_within version_cmp (lower, upper))
say_interval (Included lower) (Included upper) own other numbers =
    say_point lower upper (version_eq lower upper) refl own other
say_interval (Included lower) (Excluded upper) own other numbers =
    say_minor lower upper (equals_release (next_minor lower.release) upper) refl own other numbers
say_interval (Included lower) Unbounded own other numbers = say_bounds (Included lower) Unbounded own other
say_interval (Excluded lower) upper own other numbers = say_bounds (Excluded lower) upper own other
say_interval Unbounded upper own other numbers = say_bounds Unbounded upper own other
