-- The prints of the errors of operators.
use Rattle.std.specs.Prelude.{ℕ, List, ◌++◌, codes}
use Rattle.std.specs.String.{string_bytes}
use Rattle.pep440_operator.specs.declared.operator.OperatorParseError.{OperatorParseError}
use Rattle.pep440_operator.specs.declared.operator.OperatorParseError.TheVariants.{Memory, Unknown}

-- the print of why a text is not an operator
abbrev pub operator_error_text : OperatorParseError → List ℕ
operator_error_text Memory = codes "out of memory"
operator_error_text (Unknown text) =
    codes "no such comparison operator \"" ++ string_bytes text
    ++ codes "\", must be one of ~= == != <= >= < > ==="
