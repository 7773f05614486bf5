-- Small numbers can be raised, and so comparisons with them have points.
use Rattle.std.proofs.Common.{◌≡◌, ◌∙◌, ℕ, ◌+◌, ◌^◌, ◌<◌, ◌==◌, ◌&&◌, nat_lt, if◌then◌else◌, arith, Bool, true, false, not}
use Rattle.std.proofs.Common.{List, [], ◌∷◌, length, Option, Some, None, refl, ap, sym, true≢false}
use Rattle.std.proofs.lemmas.Bool.Decides.{nat_tests}
use Rattle.std.specs.Option.{is_some, option_map}
use Rattle.std.specs.List.{list_all}
use Rattle.pep440_text.specs.Record.{VersionRecord}
use Rattle.pep440_text.specs.Releases.{raised, last_raised}
use Rattle.pep440_version.specs.Order.{stripped, before_stripped}
use Rattle.pep440_version.specs.Changes.{or_zero}
use Rattle.pep440_operator.specs.declared.operator.Operator.{Operator}
use Rattle.pep440_operator.specs.declared.operator.Operator.TheVariants.{Equal, EqualStar, ExactEqual}
use Rattle.pep440_operator.specs.declared.operator.Operator.TheVariants.{NotEqual, NotEqualStar, TildeEqual}
use Rattle.pep440_operator.specs.declared.operator.Operator.TheVariants.{LessThan, LessThanEqual}
use Rattle.pep440_operator.specs.declared.operator.Operator.TheVariants.{GreaterThan, GreaterThanEqual}
use Rattle.pep440_specifier.specs.Matching.{SpecifierRecord}
use Rattle.pep440_range.specs.Ranges.{PointTest, release_range_by, all_but}
use Rattle.pep508_comparison.specs.Comparisons.{minor_of, in_minor, python_points, python_points_past}
use Rattle.pep508_comparison.specs.Comparisons.{compared_numbers, is_minor, listed_minors}
use Rattle.pep508_comparison.specs.Comparisons.{negated_points, some_holds, nowhere}
use Rattle.pep508_marker.specs.declared.keys.MarkerValueVersion.{MarkerValueVersion}
use Rattle.pep508_marker.specs.declared.keys.MarkerValueVersion.TheVariants.{ImplementationVersion}
use Rattle.pep508_marker.specs.declared.keys.MarkerValueVersion.TheVariants.{PythonFullVersion, PythonVersion}
use Rattle.pep508_expression.specs.Expressions.{compared_points, listed_points}
use Rattle.pep508_expression.specs.Raising.{is_small, has_small}

-- ---- tests of all

both_first : (a b : Bool) → (a && b) ≡ true → a ≡ true
both_first true b h = refl
both_first false b h = absurd (true≢false (sym h))

both_next : (a b : Bool) → (a && b) ≡ true → b ≡ true
both_next true b h = h
both_next false b h = absurd (true≢false (sym h))

both : (a b : Bool) → a ≡ true → b ≡ true → (a && b) ≡ true
both a b h k = ap (λ x. x && b) h ∙ k

abbrev AreSmall : List ℕ → Type 0
AreSmall numbers = list_all is_small numbers ≡ true

abbrev Is : Option PointTest → Type 0
Is points = is_some points ≡ true

-- ---- numbers

raised_is : (number : ℕ) (t : Bool) → t ≡ true → is_some (if t then Some (number + 1) else None) ≡ true
raised_is number true h = refl
raised_is number false h = absurd (true≢false (sym h))

next_fits : (number : ℕ) → is_small number ≡ true → nat_lt (number + 1) (2 ^ 64) ≡ true
next_fits number h = grind (arith, nat_tests)

mapped_is : {A B : Type 0} (f : A → B) (found : Option A) → is_some found ≡ true → is_some (option_map f found) ≡ true
mapped_is f (Some a) h = refl
mapped_is f None h = absurd (true≢false (sym h))

last_is : (first : ℕ) (numbers : List ℕ) → AreSmall (first ∷ numbers) → is_some (last_raised (first ∷ numbers)) ≡ true
last_is first [] h =
    mapped_is (λ next. next ∷ []) (raised first)
    (raised_is first (nat_lt (first + 1) (2 ^ 64)) (next_fits first (both_first (is_small first) true h)))
last_is first (next ∷ numbers) h =
    mapped_is (λ later. first ∷ later) (last_raised (next ∷ numbers))
    (last_is next numbers (both_next (is_small first) (list_all is_small (next ∷ numbers)) h))

last_of_some : (numbers : List ℕ) → 0 < length numbers → AreSmall numbers → is_some (last_raised numbers) ≡ true
last_of_some [] some h = absurd (omega (arith, some))
last_of_some (first ∷ numbers) some h = last_is first numbers h

-- ---- what is left of a release

minor_small : (numbers : List ℕ) → AreSmall numbers → AreSmall (minor_of numbers)
minor_small [] h = refl
minor_small (major ∷ []) h = both (is_small major) true (both_first (is_small major) true h) refl
minor_small (major ∷ minor ∷ numbers) h =
    let later = both_next (is_small major) (list_all is_small (minor ∷ numbers)) h in
    both (is_small major) (is_small minor && true)
    (both_first (is_small major) (list_all is_small (minor ∷ numbers)) h)
    (both (is_small minor) true (both_first (is_small minor) (list_all is_small numbers) later) refl)

last_minor : (numbers : List ℕ) → AreSmall numbers → is_some (last_raised (minor_of numbers)) ≡ true
last_minor [] h = last_is 0 (0 ∷ []) (minor_small [] h)
last_minor (major ∷ []) h = last_is major (0 ∷ []) (minor_small (major ∷ []) h)
last_minor (major ∷ minor ∷ numbers) h = last_is major (minor ∷ []) (minor_small (major ∷ minor ∷ numbers) h)

in_minor_is : (numbers : List ℕ) → AreSmall numbers → Is (in_minor numbers)
in_minor_is numbers h = mapped_is _ (last_raised (minor_of numbers)) (last_minor numbers h)

zero_or_not : (t : Bool) (number : ℕ) → is_small number ≡ true → AreSmall (if t then [] else number ∷ [])
zero_or_not true number h = refl
zero_or_not false number h = both (is_small number) true h refl

before_small : (number : ℕ) (numbers : List ℕ) → is_small number ≡ true → AreSmall numbers
    → AreSmall (before_stripped number numbers)
before_small number [] h k = zero_or_not (number == 0) number h
before_small number (next ∷ numbers) h k = both (is_small number) (list_all is_small (next ∷ numbers)) h k

stripped_small : (numbers : List ℕ) → AreSmall numbers → AreSmall (stripped numbers)
stripped_small [] h = refl
stripped_small (number ∷ numbers) h =
    before_small number (stripped numbers) (both_first (is_small number) (list_all is_small numbers) h)
    (stripped_small numbers (both_next (is_small number) (list_all is_small numbers) h))

or_zero_small : (numbers : List ℕ) → AreSmall numbers → AreSmall (or_zero numbers)
or_zero_small [] h = refl
or_zero_small (number ∷ numbers) h = h

or_zero_some : (numbers : List ℕ) → 0 < length (or_zero numbers)
or_zero_some [] = omega arith
or_zero_some (number ∷ numbers) = omega arith

kept : (numbers : List ℕ) → AreSmall numbers → AreSmall (or_zero (stripped numbers))
kept numbers h = or_zero_small (stripped numbers) (stripped_small numbers h)

-- ---- the points of an operator and numbers

module _ (numbers : List ℕ) (some : 0 < length numbers) (h : AreSmall numbers) where
  star_is : is_some (last_raised numbers) ≡ true
  star_is = last_of_some numbers some h

  release_is : (operator : Operator) → (operator ≡ TildeEqual → ⊥) → Is (release_range_by operator numbers)
  release_is Equal other = refl
  release_is EqualStar other = mapped_is _ (last_raised numbers) star_is
  release_is ExactEqual other = refl
  release_is NotEqual other = refl
  release_is NotEqualStar other = mapped_is all_but _ (mapped_is _ (last_raised numbers) star_is)
  release_is TildeEqual other = absurd (other refl)
  release_is LessThan other = refl
  release_is LessThanEqual other = refl
  release_is GreaterThan other = refl
  release_is GreaterThanEqual other = refl

  python_is : (operator : Operator) → (operator ≡ TildeEqual → ⊥) → Is (python_points operator numbers)
  python_is Equal other = in_minor_is numbers h
  python_is EqualStar other = mapped_is _ (last_raised numbers) star_is
  python_is ExactEqual other = in_minor_is numbers h
  python_is NotEqual other = mapped_is all_but (in_minor numbers) (in_minor_is numbers h)
  python_is NotEqualStar other = mapped_is all_but _ (mapped_is _ (last_raised numbers) star_is)
  python_is TildeEqual other = absurd (other refl)
  python_is LessThan other = refl
  python_is LessThanEqual other = mapped_is _ (last_raised (minor_of numbers)) (last_minor numbers h)
  python_is GreaterThan other = mapped_is _ (last_raised (minor_of numbers)) (last_minor numbers h)
  python_is GreaterThanEqual other = refl

  past_is : (operator : Operator) → (operator ≡ TildeEqual → ⊥) → Is (python_points_past operator numbers)
  past_is Equal other = refl
  past_is EqualStar other = refl
  past_is ExactEqual other = refl
  past_is NotEqual other = refl
  past_is NotEqualStar other = refl
  past_is TildeEqual other = absurd (other refl)
  past_is LessThan other = mapped_is _ (last_raised (minor_of numbers)) (last_minor numbers h)
  past_is LessThanEqual other = mapped_is _ (last_raised (minor_of numbers)) (last_minor numbers h)
  past_is GreaterThan other = mapped_is _ (last_raised (minor_of numbers)) (last_minor numbers h)
  past_is GreaterThanEqual other = mapped_is _ (last_raised (minor_of numbers)) (last_minor numbers h)

  by_is : (t : Bool) (operator : Operator) → (operator ≡ TildeEqual → ⊥)
      → Is (if t then python_points operator numbers else python_points_past operator numbers)
  by_is true operator other = python_is operator other
  by_is false operator other = past_is operator other

compared_is : (operator : Operator) (numbers : List ℕ) → 0 < length numbers → AreSmall numbers
    → (0 < length (compared_numbers operator numbers)) × AreSmall (compared_numbers operator numbers)
compared_is Equal numbers some h = (or_zero_some (stripped numbers), kept numbers h)
compared_is EqualStar numbers some h = (some, h)
compared_is ExactEqual numbers some h = (or_zero_some (stripped numbers), kept numbers h)
compared_is NotEqual numbers some h = (or_zero_some (stripped numbers), kept numbers h)
compared_is NotEqualStar numbers some h = (some, h)
compared_is TildeEqual numbers some h = (some, h)
compared_is LessThan numbers some h = (or_zero_some (stripped numbers), kept numbers h)
compared_is LessThanEqual numbers some h = (or_zero_some (stripped numbers), kept numbers h)
compared_is GreaterThan numbers some h = (or_zero_some (stripped numbers), kept numbers h)
compared_is GreaterThanEqual numbers some h = (or_zero_some (stripped numbers), kept numbers h)

-- a comparison with small numbers has points
pub small_compared : (specifier : SpecifierRecord) → 0 < length specifier.version.release
    → AreSmall specifier.version.release → (specifier.operator ≡ TildeEqual → ⊥) → (key : MarkerValueVersion)
    → Is (compared_points key specifier)
small_compared specifier some h other ImplementationVersion =
    release_is specifier.version.release some h specifier.operator other
small_compared specifier some h other PythonFullVersion =
    release_is specifier.version.release some h specifier.operator other
small_compared specifier some h other PythonVersion =
    let numbers = compared_numbers specifier.operator specifier.version.release in
    let so = compared_is specifier.operator specifier.version.release some h in
    by_is numbers so.0 so.1 (is_minor numbers) specifier.operator other

-- ---- lists

minors_are : (versions : List VersionRecord) → list_all has_small versions ≡ true
    → list_all is_some (listed_minors versions) ≡ true
minors_are [] h = refl
minors_are (version ∷ versions) h =
    both (is_some (in_minor version.release)) (list_all is_some (listed_minors versions))
    (in_minor_is version.release (both_first (has_small version) (list_all has_small versions) h))
    (minors_are versions (both_next (has_small version) (list_all has_small versions) h))

listed_is : (few all : Bool) (points : PointTest) → all ≡ true
    → Is (if few then Some nowhere else (if all then Some points else None))
listed_is true all points h = refl
listed_is false true points h = refl
listed_is false false points h = absurd (true≢false (sym h))

-- so does a list of versions with small numbers
pub small_listed : (versions : List VersionRecord) → list_all has_small versions ≡ true → (key : MarkerValueVersion)
    (negated : Bool) → Is (listed_points key negated versions)
small_listed versions h ImplementationVersion negated = refl
small_listed versions h PythonFullVersion negated = refl
small_listed versions h PythonVersion negated =
    listed_is (not (list_all (λ version. is_minor version.release) versions)) (list_all is_some (listed_minors versions))
    (negated_points negated (some_holds (listed_minors versions))) (minors_are versions h)
