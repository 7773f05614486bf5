-- The truth of comparisons is one: the same terms hold together, and negations negate.
use Rattle.std.proofs.Common.{◌≡◌, ℕ, ◌==◌, Bool, true, false, not, cond, List, Option, Some, None, refl, sym}
use Rattle.std.proofs.Common.{ap, ◌∙◌}
use Rattle.std.specs.Option.{option_map, option_map_or}
use Rattle.std.specs.Ordering.{is_eq}
use Rattle.std.specs.Cmp.{unsigned_Decides}
use Rattle.std.specs.Cmp.Lexicographic.{nat_list_cmp_total}
use Rattle.version_ranges.specs.Point.{Point, At, JustAbove, point_cmp}
use Rattle.version_ranges.specs.Turns.{reaches}
use Rattle.version_ranges.proofs.Membership.{not_not}
use Rattle.version_ranges.proofs.Reading.{goes_to}
use Rattle.pep440_text.specs.Record.{VersionRecord, release_record}
use Rattle.pep440_version.specs.Order.{version_eq}
use Rattle.pep440_operator.specs.Operators.{negated}
use Rattle.pep440_range.specs.Ranges.{PointTest, all_but}
use Rattle.pep440_specifier.specs.SpecifierOrder.{operator_rank}
use Rattle.pep440_range.proofs.Complements.{release_rest}
use Rattle.pep440_operator.specs.declared.operator.Operator.{Operator}
use Rattle.pep440_operator.specs.declared.operator.Operator.TheVariants as versions
use Rattle.pep508_marker.specs.declared.keys.MarkerValueVersion.{MarkerValueVersion}
use Rattle.pep508_marker.specs.declared.keys.MarkerValueVersion.TheVariants as keys
use Rattle.pep508_marker.specs.declared.keys.MarkerValueString.{MarkerValueString}
use Rattle.pep508_marker.specs.declared.operators.ExtraOperator.{ExtraOperator}
use Rattle.pep508_marker.specs.declared.operators.ExtraOperator.TheVariants as extras
use Rattle.pep508_marker.specs.declared.operators.MarkerOperator.{MarkerOperator}
use Rattle.pep508_marker.specs.declared.operators.MarkerOperator.TheVariants.{Equal, NotEqual, GreaterThan}
use Rattle.pep508_marker.specs.declared.operators.MarkerOperator.TheVariants.{GreaterEqual, LessThan}
use Rattle.pep508_marker.specs.declared.operators.MarkerOperator.TheVariants.{LessEqual, TildeEqual, In}
use Rattle.pep508_marker.specs.declared.operators.MarkerOperator.TheVariants.{NotIn, Contains, NotContains}
use Rattle.pep508_marker.specs.Expression.{ExpressionRecord, Version, String, Extra}
use Rattle.pep508_marker.specs.Keys.{version_key_rank, text_key_rank}
use Rattle.pep508_marker.specs.Operators.{marker_negated, extra_negated}
use Rattle.pep508_marker.specs.Values.{ExtraRecord, Name, Arbitrary}
use Rattle.pep508_comparison.proofs.Rests.{python_rest}
use Rattle.pep508_diagram.specs.Question.{Valuation}
use Rattle.pep508_diagram.specs.Text.{text_cmp}
use Rattle.pep508_diagram.proofs.Places.{equal_from, texts_same, text_keys_same}
use Rattle.pep508_expression.specs.Expressions.{variable_of, text_holds, extra_flag, extra_holds}
use Rattle.pep508_marker_text_laws.specs.SameTerms.{marker_operator_rank, extra_operator_rank, same_text}
use Rattle.pep508_marker_text_laws.specs.SameTerms.{same_version, same_extra, same_term, opposite_term}
use Rattle.pep508_marker_text_laws.specs.Truth.{IsTruth}
use Rattle.pep508_marker_text_laws.proofs.Removals.{both}
use Rattle.pep508_marker_text_laws.proofs.Speaking.{points_by, is_negative, totally, total_holds}

-- ---- from tests to equalities

numbers_same : (a b : ℕ) → (a == b) ≡ true → a ≡ b
numbers_same a b e = (unsigned_Decides a b).0 e

key_at : ℕ → MarkerValueVersion
key_at n = cond (n == 0) keys.ImplementationVersion (cond (n == 1) keys.PythonFullVersion keys.PythonVersion)

key_at_rank : (key : MarkerValueVersion) → key_at (version_key_rank key) ≡ key
unfolding key_at
key_at_rank keys.ImplementationVersion = refl
key_at_rank key = refl

keys_same : (key other : MarkerValueVersion) → (version_key_rank key == version_key_rank other) ≡ true →
    key ≡ other
keys_same key other e =
    sym (key_at_rank key) ∙ ap key_at (numbers_same (version_key_rank key) (version_key_rank other) e)
    ∙ key_at_rank other

operator_at : ℕ → Operator
operator_at n =
    cond (n == 0) versions.Equal (cond (n == 1) versions.EqualStar (cond (n == 2) versions.ExactEqual
    (cond (n == 3) versions.NotEqual (cond (n == 4) versions.NotEqualStar (cond (n == 5) versions.TildeEqual
    (cond (n == 6) versions.LessThan (cond (n == 7) versions.LessThanEqual
    (cond (n == 8) versions.GreaterThan versions.GreaterThanEqual))))))))

operator_at_rank : (operator : Operator) → operator_at (operator_rank operator) ≡ operator
unfolding operator_at
operator_at_rank versions.Equal = refl
operator_at_rank operator = refl

operators_same : (operator other : Operator) → (operator_rank operator == operator_rank other) ≡ true →
    operator ≡ other
operators_same operator other e =
    sym (operator_at_rank operator)
    ∙ ap operator_at (numbers_same (operator_rank operator) (operator_rank other) e) ∙ operator_at_rank other

marker_operator_at : ℕ → MarkerOperator
marker_operator_at n =
    cond (n == 0) Equal (cond (n == 1) NotEqual (cond (n == 2) GreaterThan (cond (n == 3) GreaterEqual
    (cond (n == 4) LessThan (cond (n == 5) LessEqual (cond (n == 6) TildeEqual (cond (n == 7) In
    (cond (n == 8) NotIn (cond (n == 9) Contains NotContains)))))))))

marker_operator_at_rank : (operator : MarkerOperator) →
    marker_operator_at (marker_operator_rank operator) ≡ operator
unfolding marker_operator_at
marker_operator_at_rank Equal = refl
marker_operator_at_rank operator = refl

marker_operators_same : (operator other : MarkerOperator) →
    (marker_operator_rank operator == marker_operator_rank other) ≡ true → operator ≡ other
marker_operators_same operator other e =
    sym (marker_operator_at_rank operator)
    ∙ ap marker_operator_at (numbers_same (marker_operator_rank operator) (marker_operator_rank other) e)
    ∙ marker_operator_at_rank other

extra_operators_same : (operator other : ExtraOperator) →
    (extra_operator_rank operator == extra_operator_rank other) ≡ true → operator ≡ other
extra_operators_same extras.Equal extras.Equal e = refl
extra_operators_same extras.Equal extras.NotEqual e = absurd (cc)
extra_operators_same extras.NotEqual extras.Equal e = absurd (cc)
extra_operators_same extras.NotEqual extras.NotEqual e = refl

texts_equal : (text other : List ℕ) → same_text text other ≡ true → text ≡ other
texts_equal text other e = texts_same text other (equal_from (text_cmp text other) e)

releases_same : (v w : VersionRecord) → same_version v w ≡ true → v.release ≡ w.release
releases_same v w e = texts_equal v.release w.release (both (version_eq v w) (same_text v.release w.release) e).1

extras_same : (asked other : ExtraRecord) → same_extra asked other ≡ true → asked ≡ other
extras_same (Name name) (Name other) e = ap Name (texts_equal name other e)
extras_same (Arbitrary text) (Arbitrary other) e = ap Arbitrary (texts_equal text other e)
extras_same (Name name) (Arbitrary text) e = absurd (cc)
extras_same (Arbitrary text) (Name name) e = absurd (cc)

-- ---- negations

-- the negation that is there is that operator
negation_is : {O : Type 0} (test : O → O → Bool) (same : (a b : O) → test a b ≡ true → a ≡ b) (o : Option O)
    (b : O) → option_map_or (λ c. test c b) o false ≡ true → o ≡ Some b
negation_is test same (Some c) b e = ap Some (same c b e)
negation_is test same None b e = absurd (cc)

-- a thing of one operator, told by the operator's name
by_name : {O A : Type 0} (of : O → A) (named other : O) (x : A) → Some named ≡ Some other → of named ≡ x →
    of other ≡ x
by_name of named other x e h = let same : named ≡ other = cc in ap of (sym same) ∙ h

sign_turned : (operator other : Operator) → negated operator ≡ Some other →
    is_negative other ≡ not (is_negative operator)
sign_turned versions.Equal other e = by_name is_negative versions.NotEqual other true e refl
sign_turned versions.EqualStar other e = by_name is_negative versions.NotEqualStar other true e refl
sign_turned versions.ExactEqual other e = by_name is_negative versions.NotEqual other true e refl
sign_turned versions.NotEqual other e = by_name is_negative versions.Equal other false e refl
sign_turned versions.NotEqualStar other e = by_name is_negative versions.EqualStar other false e refl
sign_turned versions.TildeEqual other e = absurd (cc)
sign_turned versions.LessThan other e = by_name is_negative versions.GreaterThanEqual other false e refl
sign_turned versions.LessThanEqual other e = by_name is_negative versions.GreaterThan other false e refl
sign_turned versions.GreaterThan other e = by_name is_negative versions.LessThanEqual other true e refl
sign_turned versions.GreaterThanEqual other e = by_name is_negative versions.LessThan other true e refl

rest_of : (key : MarkerValueVersion) (operator other : Operator) (numbers : List ℕ) →
    negated operator ≡ Some other →
    points_by key other numbers ≡ option_map all_but (points_by key operator numbers)
rest_of keys.ImplementationVersion operator other numbers e = release_rest operator other numbers e
rest_of keys.PythonFullVersion operator other numbers e = release_rest operator other numbers e
rest_of keys.PythonVersion operator other numbers e = python_rest operator other (release_record numbers) e

totally_rest : (test : Option PointTest) (otherwise : Bool) (p : Point VersionRecord) →
    totally (option_map all_but test) (not otherwise) p ≡ not (totally test otherwise p)
totally_rest (Some test) otherwise p = refl
totally_rest None otherwise p = refl

module _ (v : Valuation) where
  text_rest : (key : MarkerValueString) (operator other : MarkerOperator) (text : List ℕ) →
      marker_negated operator ≡ Some other →
      text_holds key other text v ≡ not (text_holds key operator text v)
  text_rest key Equal other text e = by_name (λ o. text_holds key o text v) NotEqual other _ e refl
  text_rest key NotEqual other text e =
      by_name (λ o. text_holds key o text v) Equal other _ e
      (sym (not_not (is_eq (point_cmp text_cmp (v.text key) (At text)))))
  text_rest key GreaterThan other text e =
      by_name (λ o. text_holds key o text v) LessEqual other _ e
      (goes_to text_cmp nat_list_cmp_total (JustAbove text) (v.text key) tt)
  text_rest key GreaterEqual other text e =
      by_name (λ o. text_holds key o text v) LessThan other _ e
      (goes_to text_cmp nat_list_cmp_total (At text) (v.text key) tt)
  text_rest key LessThan other text e =
      by_name (λ o. text_holds key o text v) GreaterEqual other _ e
      (sym (not_not (reaches (point_cmp text_cmp) (At text) (v.text key)))
      ∙ ap not (sym (goes_to text_cmp nat_list_cmp_total (At text) (v.text key) tt)))
  text_rest key LessEqual other text e =
      by_name (λ o. text_holds key o text v) GreaterThan other _ e
      (sym (not_not (reaches (point_cmp text_cmp) (JustAbove text) (v.text key)))
      ∙ ap not (sym (goes_to text_cmp nat_list_cmp_total (JustAbove text) (v.text key) tt)))
  text_rest key TildeEqual other text e = absurd (cc)
  text_rest key In other text e = by_name (λ o. text_holds key o text v) NotIn other _ e refl
  text_rest key NotIn other text e =
      by_name (λ o. text_holds key o text v) In other _ e (sym (not_not (text_holds key In text v)))
  text_rest key Contains other text e = by_name (λ o. text_holds key o text v) NotContains other _ e refl
  text_rest key NotContains other text e =
      by_name (λ o. text_holds key o text v) Contains other _ e (sym (not_not (text_holds key Contains text v)))

  extra_rest : (operator : ExtraOperator) (asked : ExtraRecord) →
      extra_holds (extra_negated operator) asked v ≡ not (extra_holds operator asked v)
  extra_rest extras.Equal asked = refl
  extra_rest extras.NotEqual asked = sym (not_not (v.flag (extra_flag asked)))

  -- ---- terms

  alike_terms : (term other : ExpressionRecord) → same_term term other ≡ true →
      total_holds v term ≡ total_holds v other
  alike_terms (Version key specifier) (Version other_key other) e =
      let parts = both (version_key_rank key == version_key_rank other_key) _ e in
      let rest = both (operator_rank specifier.operator == operator_rank other.operator)
      (same_version specifier.version other.version) parts.1 in
      let one = keys_same key other_key parts.0 in
      let operators = operators_same specifier.operator other.operator rest.0 in
      let releases = releases_same specifier.version other.version rest.1 in
      (λ i. totally (points_by (one i) (operators i) (releases i)) (is_negative (operators i))
      (v.version (variable_of (one i))))
  alike_terms (String key operator text) (String other_key other other_text) e =
      let parts = both (text_key_rank key == text_key_rank other_key) _ e in
      let rest = both (marker_operator_rank operator == marker_operator_rank other) (same_text text other_text)
      parts.1 in
      let one = text_keys_same key other_key (numbers_same (text_key_rank key) (text_key_rank other_key) parts.0)
      in
      let operators = marker_operators_same operator other rest.0 in
      let texts = texts_equal text other_text rest.1 in
      (λ i. text_holds (one i) (operators i) (texts i) v)
  alike_terms (Extra operator asked) (Extra other other_asked) e =
      let parts = both (extra_operator_rank operator == extra_operator_rank other) (same_extra asked other_asked)
      e in
      let operators = extra_operators_same operator other parts.0 in
      let names = extras_same asked other_asked parts.1 in
      (λ i. extra_holds (operators i) (names i) v)
  alike_terms term other e = absurd (cc)

  contrary_terms : (term other : ExpressionRecord) → opposite_term term other ≡ true →
      total_holds v other ≡ not (total_holds v term)
  contrary_terms (Version key specifier) (Version other_key other) e =
      let parts = both (version_key_rank key == version_key_rank other_key) _ e in
      let rest = both
      (option_map_or (λ c. operator_rank c == operator_rank other.operator) (negated specifier.operator) false)
      (same_version specifier.version other.version) parts.1 in
      let one = keys_same key other_key parts.0 in
      let turned = negation_is (λ a b. operator_rank a == operator_rank b) operators_same
      (negated specifier.operator) other.operator rest.0 in
      let releases = releases_same specifier.version other.version rest.1 in
      let point = v.version (variable_of key) in
      (λ i. totally (points_by (sym one i) other.operator (sym releases i)) (is_negative other.operator)
      (v.version (variable_of (sym one i))))
      ∙ ap (λ points. totally points (is_negative other.operator) point)
      (rest_of key specifier.operator other.operator specifier.version.release turned)
      ∙ ap (λ sign. totally (option_map all_but
      (points_by key specifier.operator specifier.version.release)) sign point)
      (sign_turned specifier.operator other.operator turned)
      ∙ totally_rest (points_by key specifier.operator specifier.version.release)
      (is_negative specifier.operator) point
  contrary_terms (String key operator text) (String other_key other other_text) e =
      let parts = both (text_key_rank key == text_key_rank other_key) _ e in
      let rest = both (option_map_or (λ c. marker_operator_rank c == marker_operator_rank other)
      (marker_negated operator) false) (same_text text other_text) parts.1 in
      let one = text_keys_same key other_key (numbers_same (text_key_rank key) (text_key_rank other_key) parts.0)
      in
      let turned = negation_is (λ a b. marker_operator_rank a == marker_operator_rank b) marker_operators_same
      (marker_negated operator) other rest.0 in
      let texts = texts_equal text other_text rest.1 in
      (λ i. text_holds (sym one i) other (sym texts i) v) ∙ text_rest key operator other text turned
  contrary_terms (Extra operator asked) (Extra other other_asked) e =
      let parts = both (extra_operator_rank (extra_negated operator) == extra_operator_rank other)
      (same_extra asked other_asked) e in
      let turned = extra_operators_same (extra_negated operator) other parts.0 in
      let names = extras_same asked other_asked parts.1 in
      (λ i. extra_holds (sym turned i) (sym names i) v) ∙ extra_rest operator asked
  contrary_terms term other e = absurd (cc)

  pub total_is_truth : IsTruth same_term opposite_term (total_holds v)
  total_is_truth = record { alike = alike_terms; contrary = contrary_terms }
