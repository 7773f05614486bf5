-- Which operators are opposites of each other.
use Rattle.std.specs.Prelude.{◌==◌, Bool, false}
use Rattle.std.specs.Option.{option_map_or}
use Rattle.pep440_operator.specs.Operators.{negated}
use Rattle.pep440_specifier.specs.SpecifierOrder.{operator_rank}
use Rattle.pep440_operator.specs.declared.operator.Operator.{Operator}
use Rattle.pep508_marker.specs.declared.operators.ExtraOperator.{ExtraOperator}
use Rattle.pep508_marker.specs.declared.operators.MarkerOperator.{MarkerOperator}
use Rattle.pep508_marker.specs.Operators.{marker_negated, extra_negated}
use Rattle.pep508_marker_text_laws.specs.SameTerms.{marker_operator_rank, extra_operator_rank}

abbrev pub are_opposite : Operator → Operator → Bool
are_opposite a b = option_map_or (λ c. operator_rank c == operator_rank b) (negated a) false

abbrev pub are_opposite_texts : MarkerOperator → MarkerOperator → Bool
are_opposite_texts a b =
    option_map_or (λ c. marker_operator_rank c == marker_operator_rank b) (marker_negated a) false

abbrev pub are_opposite_extras : ExtraOperator → ExtraOperator → Bool
are_opposite_extras a b = extra_operator_rank (extra_negated a) == extra_operator_rank b
