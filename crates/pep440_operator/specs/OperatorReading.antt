-- The reading of a text as an operator.
use Rattle.std.specs.Prelude.{ℕ, ◌==◌, ◌||◌, not, Bool, if◌then◌else◌, List, codes, Option, Some, None}
use Rattle.std.specs.Prelude.{Result, Ok, Err}
use Rattle.std.specs.Str.{bytes_eq}
use Rattle.std.specs.String.{string_bytes}
use Rattle.pep440_operator.specs.declared.operator.Operator.{Operator}
use Rattle.pep440_operator.specs.declared.operator.Operator.TheVariants.{Equal, ExactEqual, NotEqual}
use Rattle.pep440_operator.specs.declared.operator.Operator.TheVariants.{TildeEqual, LessThan, LessThanEqual}
use Rattle.pep440_operator.specs.declared.operator.Operator.TheVariants.{GreaterThan, GreaterThanEqual}
use Rattle.pep440_operator.specs.declared.operator.OperatorParseError.{OperatorParseError}
use Rattle.pep440_operator.specs.declared.operator.OperatorParseError.TheVariants.{Memory, Unknown}

-- the operator that a text is; the star follows the version and is not part of it
unfoldable pub operator_of : List ℕ → Option Operator
operator_of text =
    if bytes_eq text (codes "==") then Some Equal
    else (if bytes_eq text (codes "===") then Some ExactEqual
    else (if bytes_eq text (codes "!=") then Some NotEqual
    else (if bytes_eq text (codes "~=") then Some TildeEqual
    else (if bytes_eq text (codes "<") then Some LessThan
    else (if bytes_eq text (codes "<=") then Some LessThanEqual
    else (if bytes_eq text (codes ">") then Some GreaterThan
    else (if bytes_eq text (codes ">=") then Some GreaterThanEqual else None)))))))

-- a character of which no operator is made
abbrev pub ends_operator : ℕ → Bool
ends_operator c = not (c == 61 || (c == 60 || (c == 62 || (c == 126 || c == 33))))

abbrev pub operator_or_text : List ℕ → Option Operator → Result Operator (List ℕ)
operator_or_text text None = Err text
operator_or_text text (Some operator) = Ok operator

-- the operator of a text, or the text where it is not one
abbrev pub operator_reading : List ℕ → Result Operator (List ℕ)
operator_reading text = operator_or_text text (operator_of text)

-- the text that an error reports as not an operator
abbrev pub told_operator : OperatorParseError → Option (List ℕ)
told_operator Memory = None
told_operator (Unknown text) = Some (string_bytes text)
