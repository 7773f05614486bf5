-- Terms of one value have one word, and a term's negation has the literal word that is given for it.
use Rattle.std.proofs.Common.{◌≡◌, ℕ, Bool, true, false, ◌==◌, List, Option, None, Some}
use Rattle.std.proofs.Common.{ap, sym, ◌∙◌, true≢false}
use Rattle.std.specs.Cmp.{unsigned_Decides}
use Rattle.std.specs.Option.{option_map_or}
use Rattle.pep440_operator.specs.declared.operator.Operator.{Operator}
use Rattle.pep440_operator.specs.Operators.{negated}
use Rattle.pep440_version.specs.Order.{version_eq}
use Rattle.pep440_specifier.specs.SpecifierOrder.{operator_rank}
use Rattle.pep508_diagram.proofs.Places.{equal_from, texts_same}
use Rattle.pep508_diagram.specs.Text.{text_cmp}
use Rattle.pep508_marker.specs.Expression.{ExpressionRecord, Version, String, Extra, expression_of}
use Rattle.pep508_marker.specs.Keys.{version_key_rank, text_key_rank}
use Rattle.pep508_marker.specs.Operators.{marker_negated, extra_negated}
use Rattle.pep508_marker.specs.Values.{ExtraRecord, Name, Arbitrary, extra_text}
use Rattle.pep508_marker.specs.declared.expression.MarkerExpression.{MarkerExpression}
use Rattle.pep508_marker.specs.declared.operators.ExtraOperator.{ExtraOperator}
use Rattle.pep508_marker.specs.declared.operators.MarkerOperator.{MarkerOperator}
use Rattle.pep508_clauses.specs.Terms.{same_expression, opposite_expression}
use Rattle.pep508_clauses.specs.Terms.{expression_word, expression_literal, expression_negation}
use Rattle.pep508_clauses.specs.Words.{with_number, word_behind, term_word, term_literal, term_negation}
use Rattle.pep508_marker_text_laws.proofs.Removals.{both}
use Rattle.pep508_marker_text_laws.specs.SameTerms.{same_text, same_extra, terms_by, same_term, opposite_term}
use Rattle.pep508_marker_text_laws.specs.SameTerms.{marker_operator_rank, extra_operator_rank}

one_number : (a b : ℕ) → (a == b) ≡ true → a ≡ b
one_number a b e = (unsigned_Decides a b).0 e

one_text : (word : ℕ) (text other : List ℕ) → same_text text other ≡ true →
    word_behind word text ≡ word_behind word other
one_text word text other e =
    ap (word_behind word) (texts_same text other (equal_from (text_cmp text other) e))

one_keyed : (key other_key : ℕ) (text other : List ℕ) → (key == other_key) ≡ true →
    same_text text other ≡ true → word_behind key text ≡ word_behind other_key other
one_keyed key other_key text other keys e =
    ap (λ word. word_behind word text) (one_number key other_key keys) ∙ one_text other_key text other e

one_extra : (asked other : ExtraRecord) → same_extra asked other ≡ true →
    word_behind 0 (extra_text asked) ≡ word_behind 0 (extra_text other)
one_extra (Name name) (Name other) e = one_text 0 name other e
one_extra (Arbitrary text) (Arbitrary other) e = one_text 0 text other e
one_extra (Name name) (Arbitrary other) e = absurd (cc)
one_extra (Arbitrary text) (Name other) e = absurd (cc)

module _ (versions : Operator → Operator → Bool) (texts : MarkerOperator → MarkerOperator → Bool)
    (names : ExtraOperator → ExtraOperator → Bool) where
  one_value : (term other : ExpressionRecord) → terms_by versions texts names term other ≡ true →
      term_word term ≡ term_word other
  one_value (Version key specifier) (Version other_key other) e =
      let parts = both (version_key_rank key == version_key_rank other_key) _ e in
      let rest = both (versions specifier.operator other.operator) _ parts.1 in
      one_keyed (version_key_rank key) (version_key_rank other_key) specifier.version.release
      other.version.release parts.0 (both (version_eq specifier.version other.version) _ rest.1).1
  one_value (String key operator text) (String other_key other other_text) e =
      let parts = both (text_key_rank key == text_key_rank other_key) _ e in
      one_keyed (text_key_rank key) (text_key_rank other_key) text other_text parts.0
      (both (texts operator other) _ parts.1).1
  one_value (Extra operator asked) (Extra other other_asked) e =
      one_extra asked other_asked (both (names operator other) _ e).1
  one_value term other e = absurd (cc)

same_value : (term other : ExpressionRecord) → same_term term other ≡ true → term_word term ≡ term_word other
same_value =
    one_value (λ a b. operator_rank a == operator_rank b)
    (λ a b. marker_operator_rank a == marker_operator_rank b)
    (λ a b. extra_operator_rank a == extra_operator_rank b)

opposite_value : (term other : ExpressionRecord) → opposite_term term other ≡ true →
    term_word term ≡ term_word other
opposite_value =
    one_value (λ a b. option_map_or (λ c. operator_rank c == operator_rank b) (negated a) false)
    (λ a b. option_map_or (λ c. marker_operator_rank c == marker_operator_rank b) (marker_negated a) false)
    (λ a b. extra_operator_rank (extra_negated a) == extra_operator_rank b)

pub word_of_same : (a b : MarkerExpression) → same_expression a b ≡ true →
    expression_word a ≡ expression_word b
word_of_same a b e = same_value (expression_of a) (expression_of b) e

pub word_of_opposite : (a b : MarkerExpression) → opposite_expression a b ≡ true →
    expression_word a ≡ expression_word b
word_of_opposite a b e = opposite_value (expression_of a) (expression_of b) e

-- ---- literal words

with_one : (word other rank other_rank : ℕ) → word ≡ other → (rank == other_rank) ≡ true →
    with_number word rank ≡ with_number other other_rank
with_one word other rank other_rank words ranks =
    ap (λ w. with_number w rank) words ∙ ap (with_number other) (one_number rank other_rank ranks)

one_literal : (term other : ExpressionRecord) → same_term term other ≡ true →
    term_literal term ≡ term_literal other
one_literal (Version key specifier) (Version other_key other) e =
    let parts = both (version_key_rank key == version_key_rank other_key) _ e in
    with_one _ _ (operator_rank specifier.operator) (operator_rank other.operator)
    (same_value (Version key specifier) (Version other_key other) e)
    (both (operator_rank specifier.operator == operator_rank other.operator) _ parts.1).0
one_literal (String key operator text) (String other_key other other_text) e =
    let parts = both (text_key_rank key == text_key_rank other_key) _ e in
    with_one _ _ (marker_operator_rank operator) (marker_operator_rank other)
    (same_value (String key operator text) (String other_key other other_text) e)
    (both (marker_operator_rank operator == marker_operator_rank other) _ parts.1).0
one_literal (Extra operator asked) (Extra other other_asked) e =
    with_one _ _ (extra_operator_rank operator) (extra_operator_rank other)
    (same_value (Extra operator asked) (Extra other other_asked) e)
    (both (extra_operator_rank operator == extra_operator_rank other) _ e).0
one_literal term other e = absurd (cc)

one_negated : {A : Type 0} (rank : A → ℕ) (word other other_rank : ℕ) (negation : Option A) → word ≡ other →
    option_map_or (λ it. rank it == other_rank) negation false ≡ true →
    option_map_or (λ it. with_number word (rank it)) negation 0 ≡ with_number other other_rank
one_negated rank word other other_rank None words e = absurd (true≢false (sym e))
one_negated rank word other other_rank (Some it) words e = with_one word other (rank it) other_rank words e

one_negation : (term other : ExpressionRecord) → opposite_term term other ≡ true →
    term_negation term ≡ term_literal other
one_negation (Version key specifier) (Version other_key other) e =
    let parts = both (version_key_rank key == version_key_rank other_key) _ e in
    one_negated operator_rank _ _ (operator_rank other.operator) (negated specifier.operator)
    (opposite_value (Version key specifier) (Version other_key other) e)
    (both
    (option_map_or (λ it. operator_rank it == operator_rank other.operator)
    (negated specifier.operator) false) _ parts.1).0
one_negation (String key operator text) (String other_key other other_text) e =
    let parts = both (text_key_rank key == text_key_rank other_key) _ e in
    one_negated marker_operator_rank _ _ (marker_operator_rank other) (marker_negated operator)
    (opposite_value (String key operator text) (String other_key other other_text) e)
    (both
    (option_map_or (λ it. marker_operator_rank it == marker_operator_rank other)
    (marker_negated operator) false) _ parts.1).0
one_negation (Extra operator asked) (Extra other other_asked) e =
    with_one _ _ (extra_operator_rank (extra_negated operator)) (extra_operator_rank other)
    (opposite_value (Extra operator asked) (Extra other other_asked) e)
    (both (extra_operator_rank (extra_negated operator) == extra_operator_rank other) _ e).0
one_negation term other e = absurd (cc)

pub literal_of_same : (a b : MarkerExpression) → same_expression a b ≡ true →
    expression_literal a ≡ expression_literal b
literal_of_same a b e = one_literal (expression_of a) (expression_of b) e

pub literal_of_opposite : (a b : MarkerExpression) → opposite_expression a b ≡ true →
    expression_negation a ≡ expression_literal b
literal_of_opposite a b e = one_negation (expression_of a) (expression_of b) e
