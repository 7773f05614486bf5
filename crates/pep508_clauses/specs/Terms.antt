-- Terms of the program, and its lists of them, as records.
use Rattle.std.specs.Prelude.{ℕ, Bool, List, map, Vec}
use Rattle.std.specs.Borrow.{Bor}
use Rattle.pep508_marker.specs.declared.expression.MarkerExpression.{MarkerExpression}
use Rattle.pep508_marker.specs.Expression.{expression_of}
use Rattle.pep508_marker_text_laws.specs.Saying.{Clause}
use Rattle.pep508_marker_text_laws.specs.SameTerms.{same_term, opposite_term}
use Rattle.pep508_clauses.specs.Words.{term_word, term_literal, term_negation}

abbrev pub clause_of : List MarkerExpression → Clause
clause_of terms = map expression_of terms

-- lists of terms as lists
abbrev pub lists_of : {T Y : Type 0} → List (Vec T Y) → List (List T)
lists_of clauses = map (λ clause. clause.items) clauses

-- borrowed lists as lists
abbrev pub lent_lists : {T : Type 0} → List (Bor (List T)) → List (List T)
lent_lists clauses = map (λ clause. clause.now) clauses

abbrev pub clauses_shown : {Y : Type 0} → List (Vec MarkerExpression Y) → List Clause
clauses_shown clauses = map (λ clause. clause_of clause.items) clauses

-- the tests of records, on the program's terms
abbrev pub same_expression : MarkerExpression → MarkerExpression → Bool
same_expression a b = same_term (expression_of a) (expression_of b)

abbrev pub opposite_expression : MarkerExpression → MarkerExpression → Bool
opposite_expression a b = opposite_term (expression_of a) (expression_of b)

abbrev pub expression_word : MarkerExpression → ℕ
expression_word term = term_word (expression_of term)

abbrev pub expression_literal : MarkerExpression → ℕ
expression_literal term = term_literal (expression_of term)

abbrev pub expression_negation : MarkerExpression → ℕ
expression_negation term = term_negation (expression_of term)
