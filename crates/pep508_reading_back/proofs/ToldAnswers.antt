-- What a formula says hangs on the answers to its questions alone.
use Rattle.std.proofs.Common.{◌≡◌, ℕ, true, not, ◌&&◌, ◌||◌, List, Some, refl, ap, ap₂}
use Rattle.std.specs.List.{AllByRecursion}
use Rattle.std.specs.Prelude.{unwrap_or}
use Rattle.std.specs.Cmp.Lexicographic.{nat_list_cmp_total}
use Rattle.pep440_text.specs.Record.{VersionRecord, release_record}
use Rattle.pep440_version.specs.Order.{version_cmp}
use Rattle.version_ranges.proofs.Membership.{all_weaker}
use Rattle.pep508_marker.specs.declared.keys.MarkerValueVersion.{MarkerValueVersion}
use Rattle.pep508_marker.specs.declared.keys.MarkerValueString.{MarkerValueString}
use Rattle.pep508_marker.specs.declared.operators.MarkerOperator.{MarkerOperator}
use Rattle.pep508_marker.specs.declared.operators.MarkerOperator.TheVariants.{Equal, NotEqual, GreaterThan}
use Rattle.pep508_marker.specs.declared.operators.MarkerOperator.TheVariants.{GreaterEqual, LessThan}
use Rattle.pep508_marker.specs.declared.operators.MarkerOperator.TheVariants.{LessEqual, TildeEqual, In}
use Rattle.pep508_marker.specs.declared.operators.MarkerOperator.TheVariants.{NotIn, Contains, NotContains}
use Rattle.pep508_marker.specs.declared.operators.ExtraOperator.{ExtraOperator}
use Rattle.pep508_marker.specs.declared.operators.ExtraOperator.TheVariants as extra
use Rattle.pep508_marker.specs.Expression.{ExpressionRecord, Version, VersionIn, String, Extra}
use Rattle.pep508_marker.specs.Values.{ExtraRecord}
use Rattle.pep508_diagram.specs.Text.{text_cmp}
use Rattle.pep508_diagram.specs.Question.{Valuation, answer}
use Rattle.pep508_expression.specs.Expressions.{variable_of, text_holds, extra_flag, extra_holds}
use Rattle.pep508_expression.specs.Expressions.{expression_holds}
use Rattle.pep508_marker_parser.specs.Formula.{Formula, Says, LeftOut, Both, Either, joined, truth_in}
use Rattle.pep508_marker_parser.specs.Formula.{formula_holds}
use Rattle.pep508_reading_back.specs.Asked.{AnswerAlike}
use Rattle.pep508_reading_back.specs.Told.{asked_releases, version_questions, release_questions}
use Rattle.pep508_reading_back.specs.Told.{listed_questions, text_questions, questions_of_term, questions_of}
use Rattle.pep508_reading_back.proofs.ToldPoints.{all_parts, all_in, AlikeAt, alike_answers, alike_at}
use Rattle.pep508_reading_back.proofs.ToldPoints.{alike_below, alike_up_to}
use Rattle.pep508_reading_back.proofs.ToldRanges.{AlikeBeside, compared_alike, AlikeListed, list_alike}

module _ (v w : Valuation) where
  -- ---- versions

  version_alike : (key : MarkerValueVersion) (version : VersionRecord) →
      AnswerAlike (version_questions key version) v w →
      AlikeAt version_cmp (v.version (variable_of key)) (w.version (variable_of key)) version
  unfolding answer
  version_alike key version alike =
      alike_answers version_cmp (v.version (variable_of key))
      (w.version (variable_of key)) version alike.0 alike.1.0

  releases_alike : (key : MarkerValueVersion) (numbers : List ℕ) →
      AnswerAlike (release_questions key numbers) v w →
      AllByRecursion (AlikeBeside (v.version (variable_of key)) (w.version (variable_of key)))
      (asked_releases numbers)
  releases_alike key numbers alike =
      all_weaker (λ release. AnswerAlike (version_questions key (release_record release)) v w)
      (AlikeBeside (v.version (variable_of key)) (w.version (variable_of key)))
      (λ release a. version_alike key (release_record release) a) (asked_releases numbers)
      (all_in (λ q. answer v q ≡ answer w q) (λ release. version_questions key (release_record release))
      (asked_releases numbers) alike)

  one_listed : (key : MarkerValueVersion) (version : VersionRecord) →
      AnswerAlike (listed_questions key version) v w →
      AlikeListed (v.version (variable_of key)) (w.version (variable_of key)) version
  one_listed key version alike =
      let parts = all_parts (λ q. answer v q ≡ answer w q) (version_questions key version)
      (release_questions key version.release) alike in
      (version_alike key version parts.0, releases_alike key version.release parts.1)

  -- ---- texts and extras

  text_alike : (key : MarkerValueString) (operator : MarkerOperator) (text : List ℕ) →
      AnswerAlike (text_questions key text) v w →
      text_holds key operator text v ≡ text_holds key operator text w
  unfolding answer
  text_alike key operator text alike =
      let beside = alike_answers text_cmp (v.text key) (w.text key) text alike.0 alike.1.0 in
      by operator beside
    where
      by : (operator : MarkerOperator) → AlikeAt text_cmp (v.text key) (w.text key) text →
          text_holds key operator text v ≡ text_holds key operator text w
      by Equal beside = alike_at text_cmp nat_list_cmp_total (v.text key) (w.text key) text beside
      by NotEqual beside =
          ap not (alike_at text_cmp nat_list_cmp_total (v.text key) (w.text key) text beside)
      by GreaterThan beside = beside.1
      by GreaterEqual beside = beside.0
      by LessThan beside = alike_below text_cmp nat_list_cmp_total (v.text key) (w.text key) text beside
      by LessEqual beside = alike_up_to text_cmp nat_list_cmp_total (v.text key) (w.text key) text beside
      by TildeEqual beside = refl
      by In beside = alike.1.1.0
      by NotIn beside = ap not alike.1.1.0
      by Contains beside = alike.1.1.1.0
      by NotContains beside = ap not alike.1.1.1.0

  extra_alike : (operator : ExtraOperator) (asked : ExtraRecord) →
      v.flag (extra_flag asked) ≡ w.flag (extra_flag asked) →
      extra_holds operator asked v ≡ extra_holds operator asked w
  extra_alike extra.Equal asked alike = alike
  extra_alike extra.NotEqual asked alike = ap not alike

  -- ---- comparisons and formulas

  pub term_alike : (term : ExpressionRecord) → AnswerAlike (questions_of_term term) v w →
      expression_holds term v ≡ expression_holds term w
  unfolding expression_holds answer
  term_alike (Version key specifier) alike =
      compared_alike (v.version (variable_of key)) (w.version (variable_of key)) key specifier
      (releases_alike key specifier.version.release alike)
  term_alike (VersionIn key versions negated) alike =
      list_alike (v.version (variable_of key)) (w.version (variable_of key)) key negated versions
      (all_weaker (λ version. AnswerAlike (listed_questions key version) v w)
      (AlikeListed (v.version (variable_of key)) (w.version (variable_of key))) (one_listed key) versions
      (all_in (λ q. answer v q ≡ answer w q) (listed_questions key) versions alike))
  term_alike (String key operator text) alike = text_alike key operator text alike
  term_alike (Extra operator asked) alike = extra_alike operator asked alike.0

  abbrev HoldsAlike : Formula ExpressionRecord → Type 0
  HoldsAlike f = truth_in (λ t. expression_holds t v) f ≡ truth_in (λ t. expression_holds t w) f

  truth_alike : (f : Formula ExpressionRecord) → AnswerAlike (questions_of f) v w → HoldsAlike f
  truth_alike (Says term) alike = ap Some (term_alike term alike)
  truth_alike LeftOut alike = refl
  truth_alike (Both f g) alike =
      let parts = all_parts (λ q. answer v q ≡ answer w q) (questions_of f) (questions_of g) alike in
      ap₂ (joined (λ a b. a && b)) (truth_alike f parts.0) (truth_alike g parts.1)
  truth_alike (Either f g) alike =
      let parts = all_parts (λ q. answer v q ≡ answer w q) (questions_of f) (questions_of g) alike in
      ap₂ (joined (λ a b. a || b)) (truth_alike f parts.0) (truth_alike g parts.1)

  -- where the questions of a formula are answered alike, it holds alike
  pub formula_alike : (f : Formula ExpressionRecord) → AnswerAlike (questions_of f) v w →
      formula_holds (λ t. expression_holds t v) f ≡ formula_holds (λ t. expression_holds t w) f
  formula_alike f alike = ap (λ o. unwrap_or o true) (truth_alike f alike)
