-- The extra that all clauses require.
use Rattle.std.specs.Prelude.{Bool, false, List, [], ◌∷◌, Option, Some, None, option_map}
use Rattle.std.specs.List.{list_all}
use Rattle.std.specs.Option.{option_or, option_map_or}
use Rattle.pep508_diagram.specs.Diagram.{Diagram}
use Rattle.pep508_diagram.specs.Question.{Question}
use Rattle.pep508_marker.specs.declared.operators.ExtraOperator.TheVariants as extras
use Rattle.pep508_marker.specs.Expression.{ExpressionRecord, Version, VersionIn, String, Extra}
use Rattle.pep508_marker.specs.Values.{ExtraRecord}
use Rattle.pep508_marker_text_laws.specs.MarkerText.{disjunction}
use Rattle.pep508_marker_text_laws.specs.SameTerms.{same_extra}
use Rattle.pep508_marker_text_laws.specs.Saying.{Clause}
use Rattle.pep508_marker_text_laws.specs.Terms.{kept_where}

-- the extra that a comparison requires by `==`
abbrev pub extra_asked : ExpressionRecord → Option ExtraRecord
extra_asked (Version key specifier) = None
extra_asked (VersionIn key versions negated) = None
extra_asked (String key operator text) = None
extra_asked (Extra extras.Equal asked) = Some asked
extra_asked (Extra extras.NotEqual asked) = None

-- the first extra that a clause requires
abbrev pub first_extra : Clause → Option ExtraRecord
first_extra [] = None
first_extra (term ∷ terms) = option_or (extra_asked term) (first_extra terms)

abbrev pub asks_first : ExtraRecord → Clause → Bool
asks_first asked clause = option_map_or (same_extra asked) (first_extra clause) false

-- the first extra of each clause, where each has one and all are the same
abbrev pub common_extra : List Clause → Option ExtraRecord
common_extra [] = None
common_extra (clause ∷ others) = kept_where (λ asked. list_all (asks_first asked) others) (first_extra clause)

-- the comparison of that extra
abbrev pub extra_of_clauses : List Clause → Option ExpressionRecord
extra_of_clauses clauses = option_map (Extra extras.Equal) (common_extra clauses)

-- that of the clauses of a diagram
abbrev pub top_extra : Diagram Question → Option ExpressionRecord
top_extra diagram = extra_of_clauses (disjunction diagram)
