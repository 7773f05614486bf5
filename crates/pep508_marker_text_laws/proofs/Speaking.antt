-- The comparisons of clauses say where the values of keys lie. Where a comparison's number can't be raised it is
-- given a truth here, so that negations negate there too; no clause has such a comparison.
use Rattle.std.proofs.Common.{◌≡◌, ℕ, Bool, true, false, not, ◌&&◌, cond, List, Option, Some, None, refl, sym}
use Rattle.std.proofs.Common.{ap, ◌∙◌}
use Rattle.std.specs.Option.{option_map, is_some}
use Rattle.std.specs.Ordering.{is_gt}
use Rattle.std.specs.Cmp.Lexicographic.{nat_list_cmp_total}
use Rattle.std.specs.declared.ops.Bound.TheVariants.{Included, Excluded}
use Rattle.version_ranges.specs.Bounds.{is_within, goes_on_to}
use Rattle.version_ranges.specs.OrderLaws.{points_total}
use Rattle.version_ranges.specs.Point.{Point, At}
use Rattle.pep440_text.specs.Record.{VersionRecord, release_record}
use Rattle.pep440_version.specs.Order.{version_cmp, version_eq}
use Rattle.pep440_version.specs.OrderLaws.{version_cmp_total}
use Rattle.pep440_specifier.specs.Bounds.{next_minor, equals_release}
use Rattle.pep440_range.specs.Ranges.{PointTest, at_version, from_bound, to_bound, all_but, release_range_by}
use Rattle.pep440_range.specs.Ranges.{star_releases}
use Rattle.pep440_range.proofs.Intervals.{minor_range}
use Rattle.pep440_operator.specs.declared.operator.Operator.{Operator}
use Rattle.pep440_operator.specs.declared.operator.Operator.TheVariants as versions
use Rattle.pep508_marker.specs.declared.keys.MarkerValueVersion.{MarkerValueVersion}
use Rattle.pep508_marker.specs.declared.keys.MarkerValueVersion.TheVariants as keys
use Rattle.pep508_marker.specs.declared.keys.MarkerValueString.{MarkerValueString}
use Rattle.pep508_marker.specs.Expression.{ExpressionRecord, Version, VersionIn, String, Extra}
use Rattle.pep508_comparison.specs.Comparisons.{python_points_by, compared_numbers}
use Rattle.pep508_diagram.specs.declared.variable.VersionVariable.{VersionVariable}
use Rattle.pep508_diagram.specs.declared.variable.VersionVariable.TheVariants.{ImplementationVersion}
use Rattle.pep508_diagram.specs.declared.variable.VersionVariable.TheVariants.{PythonFullVersion}
use Rattle.pep508_diagram.specs.declared.variable.Flag.{Flag}
use Rattle.pep508_diagram.specs.declared.variable.Flag.TheVariants as flag
use Rattle.pep508_diagram.specs.Question.{Valuation}
use Rattle.pep508_diagram.proofs.Places.{equal_from}
use Rattle.pep508_expression.specs.Expressions.{variable_of, text_holds, extra_holds, expression_holds}
use Rattle.pep508_expression.specs.Expressions.{has_points, or_nowhere}
use Rattle.pep508_marker_text_laws.specs.ReleaseBounds.{IsPlainRelease}
use Rattle.pep508_marker_text_laws.specs.Terms.{two_numbers, is_minor_of, kept_where, minor_between, version_term}
use Rattle.pep508_marker_text_laws.specs.Terms.{version_saying, text_saying, set_term, unset_term}
use Rattle.pep508_marker_text_laws.proofs.Removals.{both}
use Rattle.pep508_marker_text_laws.proofs.Said.{Says}
use Rattle.pep508_marker_text_laws.proofs.Walks.{Speaks}

-- ---- truth

-- the points of an operator and release numbers
abbrev pub points_by : MarkerValueVersion → Operator → List ℕ → Option PointTest
points_by keys.ImplementationVersion operator numbers = release_range_by operator numbers
points_by keys.PythonFullVersion operator numbers = release_range_by operator numbers
points_by keys.PythonVersion operator numbers = python_points_by operator (compared_numbers operator numbers)

-- of an operator and its negation just one
abbrev pub is_negative : Operator → Bool
is_negative versions.Equal = false
is_negative versions.EqualStar = false
is_negative versions.ExactEqual = false
is_negative versions.NotEqual = true
is_negative versions.NotEqualStar = true
is_negative versions.TildeEqual = false
is_negative versions.LessThan = true
is_negative versions.LessThanEqual = true
is_negative versions.GreaterThan = false
is_negative versions.GreaterThanEqual = false

abbrev pub totally : Option PointTest → Bool → PointTest
totally (Some test) otherwise p = test p
totally None otherwise p = otherwise

abbrev pub total_holds : Valuation → ExpressionRecord → Bool
total_holds v (Version key specifier) =
    totally (points_by key specifier.operator specifier.version.release) (is_negative specifier.operator)
    (v.version (variable_of key))
total_holds v (VersionIn key listed negated) = expression_holds (VersionIn key listed negated) v
total_holds v (String key operator text) = text_holds key operator text v
total_holds v (Extra operator asked) = extra_holds operator asked v

some_agree : (test : Option PointTest) (otherwise : Bool) (p : Point VersionRecord) → is_some test ≡ true →
    or_nowhere test p ≡ totally test otherwise p
some_agree (Some test) otherwise p h = refl
some_agree None otherwise p h = absurd (cc)

-- it is the truth of a comparison whose numbers can be raised
pub total_agrees : (v : Valuation) (term : ExpressionRecord) → has_points term ≡ true →
    total_holds v term ≡ expression_holds term v
unfolding has_points expression_holds
total_agrees v (Version keys.ImplementationVersion specifier) h =
    sym (some_agree (release_range_by specifier.operator specifier.version.release)
    (is_negative specifier.operator) (v.version ImplementationVersion) h)
total_agrees v (Version keys.PythonFullVersion specifier) h =
    sym (some_agree (release_range_by specifier.operator specifier.version.release)
    (is_negative specifier.operator) (v.version PythonFullVersion) h)
total_agrees v (Version keys.PythonVersion specifier) h =
    sym (some_agree (python_points_by specifier.operator
    (compared_numbers specifier.operator specifier.version.release))
    (is_negative specifier.operator) (v.version PythonFullVersion) h)
total_agrees v (VersionIn key listed negated) h = refl
total_agrees v (String key operator text) h = refl
total_agrees v (Extra operator asked) h = refl

-- ---- stars

-- a star between two bounds, its numbers, and what begins with them
pub record Star (lower upper : VersionRecord) (numbers : List ℕ) : Type 0 where
  pub range : PointTest
  pub range_is : star_releases numbers ≡ Some range
  pub holds : (p : Point VersionRecord) → range p ≡ is_within version_cmp (Included lower, Excluded upper) p

kept_from : {A : Type 0} (test : A → Bool) (o : Option A) (x : A) → kept_where test o ≡ Some x → test x ≡ true
kept_from test None x e = absurd (cc)
kept_from test (Some y) x e = kept_one (test y) refl e
  where
    kept_one : (b : Bool) → test y ≡ b → cond b (Some y) None ≡ Some x → test x ≡ true
    kept_one true same e = let is : y ≡ x = cc in ap test (sym is) ∙ same
    kept_one false same e = absurd (cc)

pub star_found : (lower upper : VersionRecord) (numbers : List ℕ) → IsPlainRelease upper →
    minor_between lower upper ≡ Some numbers → Star lower upper numbers
star_found lower upper numbers fits e =
    let parts = both (version_eq (release_record numbers) lower) (equals_release (next_minor numbers) upper)
    (kept_from (is_minor_of lower upper) (two_numbers lower.release) numbers e) in
    let found = minor_range (release_record numbers) upper parts.1 refl fits.1 in record {
      range = found.0;
      range_is = found.1;
      holds = λ p. found.2 p
          ∙ ap (λ o. not (is_gt o) && goes_on_to version_cmp (Excluded upper) p)
          ((points_total version_cmp version_cmp_total).congr (At (release_record numbers)) (At lower) p
          (equal_from (version_cmp (release_record numbers) lower) parts.0));
    }

-- ---- what is said of versions

module _ (v : Valuation) where
  pub said : (key : VersionVariable) (operator : Operator) (version : VersionRecord) →
      total_holds v (version_term key operator version)
      ≡ totally (release_range_by operator version.release) (is_negative operator) (v.version key)
  said ImplementationVersion operator version = refl
  said PythonFullVersion operator version = refl

  star_said : (key : VersionVariable) (lower upper : VersionRecord) (term : ExpressionRecord)
      (numbers : Option (List ℕ)) → IsPlainRelease upper → minor_between lower upper ≡ numbers →
      option_map (λ ns. version_term key versions.EqualStar (release_record ns)) numbers ≡ Some term →
      total_holds v term ≡ is_within version_cmp (Included lower, Excluded upper) (v.version key)
  star_said key lower upper term None fits same e = absurd (cc)
  star_said key lower upper term (Some numbers) fits same e =
      let star = star_found lower upper numbers fits same in
      let is : version_term key versions.EqualStar (release_record numbers) ≡ term = cc in
      ap (total_holds v) (sym is) ∙ said key versions.EqualStar (release_record numbers)
      ∙ ap (λ o. totally o false (v.version key)) star.range_is ∙ star.holds (v.version key)

  no_star_said : (key : VersionVariable) (lower upper : VersionRecord) (term : ExpressionRecord)
      (numbers : Option (List ℕ)) → IsPlainRelease upper → minor_between lower upper ≡ numbers →
      option_map (λ ns. version_term key versions.NotEqualStar (release_record ns)) numbers ≡ Some term →
      total_holds v term ≡ not (is_within version_cmp (Included lower, Excluded upper) (v.version key))
  no_star_said key lower upper term None fits same e = absurd (cc)
  no_star_said key lower upper term (Some numbers) fits same e =
      let star = star_found lower upper numbers fits same in
      let is : version_term key versions.NotEqualStar (release_record numbers) ≡ term = cc in
      ap (total_holds v) (sym is) ∙ said key versions.NotEqualStar (release_record numbers)
      ∙ ap (λ o. totally (option_map all_but o) true (v.version key)) star.range_is
      ∙ ap not (star.holds (v.version key))

  versions_say : (key : VersionVariable) →
      Says IsPlainRelease (total_holds v) (v.version key) (version_saying key)
  versions_say key = record {
    total = version_cmp_total;
    equal_is = λ w fits. said key versions.Equal w
        ∙ ap (λ (u : VersionRecord). at_version u (v.version key)) (sym fits.0);
    differs_is = λ w fits. said key versions.NotEqual w
        ∙ ap (λ (u : VersionRecord). not (at_version u (v.version key))) (sym fits.0);
    at_least_is = λ w fits. said key versions.GreaterThanEqual w
        ∙ ap (λ (u : VersionRecord). from_bound (Included u) (v.version key)) (sym fits.0);
    above_is = λ w fits. said key versions.GreaterThan w
        ∙ ap (λ (u : VersionRecord). from_bound (Excluded u) (v.version key)) (sym fits.0);
    at_most_is = λ w fits. said key versions.LessThanEqual w
        ∙ ap (λ (u : VersionRecord). to_bound (Included u) (v.version key)) (sym fits.0);
    below_is = λ w fits. said key versions.LessThan w
        ∙ ap (λ (u : VersionRecord). to_bound (Excluded u) (v.version key)) (sym fits.0);
    star_is = λ lower upper fits other term e. star_said key lower upper term (minor_between lower upper) other
        refl e;
    no_star_is = λ lower upper fits other term e. no_star_said key lower upper term (minor_between lower upper)
        other refl e;
  }

  texts_say : (key : MarkerValueString) →
      Says (λ text. Unit {0}) (total_holds v) (v.text key) (text_saying key)
  texts_say key = record {
    total = nat_list_cmp_total;
    equal_is = λ text fits. refl;
    differs_is = λ text fits. refl;
    at_least_is = λ text fits. refl;
    above_is = λ text fits. refl;
    at_most_is = λ text fits. refl;
    below_is = λ text fits. refl;
    star_is = λ lower upper fits other term e. absurd (cc);
    no_star_is = λ lower upper fits other term e. absurd (cc);
  }

  set_says : (flag : Flag) → total_holds v (set_term flag) ≡ v.flag flag
  set_says (flag.In key text) = refl
  set_says (flag.Contains key text) = refl
  set_says (flag.Extra name) = refl
  set_says (flag.Arbitrary text) = refl

  unset_says : (flag : Flag) → total_holds v (unset_term flag) ≡ not (v.flag flag)
  unset_says (flag.In key text) = refl
  unset_says (flag.Contains key text) = refl
  unset_says (flag.Extra name) = refl
  unset_says (flag.Arbitrary text) = refl

  pub terms_speak : Speaks v (total_holds v)
  terms_speak = record {
    versions = versions_say;
    texts = texts_say;
    set_is = set_says;
    unset_is = unset_says;
  }
