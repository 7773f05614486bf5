-- Terms and clauses after others.
use Rattle.std.specs.Prelude.{ℕ, List, ◌++◌, codes, Vec}
use Rattle.pep508_marker.specs.declared.expression.MarkerExpression.{MarkerExpression}
use Rattle.pep508_marker.specs.Expression.{expression_of, expression_text}
use Rattle.pep508_marker_text_laws.specs.MarkerText.{bracketed_text}
use Rattle.pep508_clauses.specs.Terms.{clause_of}

abbrev pub and_term : MarkerExpression → List ℕ
and_term term = codes " and " ++ expression_text (expression_of term)

abbrev pub or_clause : {Y : Type 0} → Vec MarkerExpression Y → List ℕ
or_clause clause = codes " or " ++ bracketed_text (clause_of clause.items)
