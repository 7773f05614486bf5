-- The operators of markers: their texts, and the comparisons of bounds (PEP 508, "Environment Markers").
use Rattle.std.specs.Prelude.{ℕ, ◌&&◌, eqb, not, Bool, false, if◌then◌else◌, List, ◌++◌, drop}
use Rattle.std.specs.Prelude.{codes, Option, Some, None, Result, Ok, Err}
use Rattle.std.specs.Borrow.{Bor}
use Rattle.std.specs.List.{starts_with}
use Rattle.std.specs.Option.{option_map_or}
use Rattle.std.specs.Range.Bound.{bound_map}
use Rattle.std.specs.Str.{bytes_eq, trim_start}
use Rattle.std.specs.String.{string_bytes}
use Rattle.std.specs.declared.ops.Bound.{Bound}
use Rattle.std.specs.declared.ops.Bound.TheVariants.{Included, Excluded, Unbounded}
use Rattle.pep440_operator.specs.declared.operator.Operator.{Operator}
use Rattle.pep440_operator.specs.declared.operator.Operator.TheVariants as versions
use Rattle.pep508_marker.specs.declared.operators.ExtraOperator.{ExtraOperator}
use Rattle.pep508_marker.specs.declared.operators.ExtraOperator.TheVariants as extras
use Rattle.pep508_marker.specs.declared.operators.MarkerOperator.{MarkerOperator}
use Rattle.pep508_marker.specs.declared.operators.MarkerOperator.TheVariants.{Equal, NotEqual, GreaterThan}
use Rattle.pep508_marker.specs.declared.operators.MarkerOperator.TheVariants.{GreaterEqual, LessThan}
use Rattle.pep508_marker.specs.declared.operators.MarkerOperator.TheVariants.{LessEqual, TildeEqual, In}
use Rattle.pep508_marker.specs.declared.operators.MarkerOperator.TheVariants.{NotIn, Contains, NotContains}
use Rattle.pep508_marker.specs.declared.operators.MarkerTextError.{MarkerTextError}
use Rattle.pep508_marker.specs.declared.operators.MarkerTextError.TheVariants.{Text, Memory}

-- the print of an operator; containment prints as its inverse is written
abbrev pub marker_operator_text : MarkerOperator → List ℕ
marker_operator_text Equal = codes "=="
marker_operator_text NotEqual = codes "!="
marker_operator_text GreaterThan = codes ">"
marker_operator_text GreaterEqual = codes ">="
marker_operator_text LessThan = codes "<"
marker_operator_text LessEqual = codes "<="
marker_operator_text TildeEqual = codes "~="
marker_operator_text In = codes "in"
marker_operator_text NotIn = codes "not in"
marker_operator_text Contains = codes "in"
marker_operator_text NotContains = codes "not in"

-- `in` after white space, of which there is some
abbrev pub is_spaced_in : List ℕ → Bool
is_spaced_in text = bytes_eq (trim_start text) (codes "in") && not (bytes_eq text (codes "in"))

-- the text after `not`, where it is at the front
unfoldable pub behind_not : List ℕ → Option (List ℕ)
behind_not text = if starts_with eqb text (codes "not") then Some (drop 3 text) else None

-- `not`, white space and `in`
unfoldable pub is_not_in : List ℕ → Bool
is_not_in text = option_map_or is_spaced_in (behind_not text) false

-- the operator that a text is; containment has no text of its own
unfoldable pub marker_operator_of : List ℕ → Option MarkerOperator
marker_operator_of text =
    if bytes_eq text (codes "==") then Some Equal
    else (if bytes_eq text (codes "!=") then Some NotEqual
    else (if bytes_eq text (codes ">") then Some GreaterThan
    else (if bytes_eq text (codes ">=") then Some GreaterEqual
    else (if bytes_eq text (codes "<") then Some LessThan
    else (if bytes_eq text (codes "<=") then Some LessEqual
    else (if bytes_eq text (codes "~=") then Some TildeEqual
    else (if bytes_eq text (codes "in") then Some In
    else (if is_not_in text then Some NotIn else None))))))))

abbrev pub operator_or_message : List ℕ → Option MarkerOperator → Result MarkerOperator (List ℕ)
operator_or_message text (Some operator) = Ok operator
operator_or_message text None = Err (codes "Invalid comparator: " ++ text)

-- the operator of a text, or the message where it is not one
abbrev pub marker_operator_reading : List ℕ → Result MarkerOperator (List ℕ)
marker_operator_reading text = operator_or_message text (marker_operator_of text)

-- the message of an error about a text, unless it is lack of memory
abbrev pub told_text : MarkerTextError → Option (List ℕ)
told_text (Text text) = Some (string_bytes text)
told_text Memory = None

-- the print of an error
abbrev pub text_error_text : MarkerTextError → List ℕ
text_error_text (Text text) = string_bytes text
text_error_text Memory = codes "out of memory"

-- the operator between the same two with the sides exchanged
abbrev pub inverted : MarkerOperator → MarkerOperator
inverted Equal = Equal
inverted NotEqual = NotEqual
inverted GreaterThan = LessThan
inverted GreaterEqual = LessEqual
inverted LessThan = GreaterThan
inverted LessEqual = GreaterEqual
inverted TildeEqual = TildeEqual
inverted In = Contains
inverted NotIn = NotContains
inverted Contains = In
inverted NotContains = NotIn

-- the operator of the opposite; `~=` has none
abbrev pub marker_negated : MarkerOperator → Option MarkerOperator
marker_negated Equal = Some NotEqual
marker_negated NotEqual = Some Equal
marker_negated GreaterThan = Some LessEqual
marker_negated GreaterEqual = Some LessThan
marker_negated LessThan = Some GreaterEqual
marker_negated LessEqual = Some GreaterThan
marker_negated TildeEqual = None
marker_negated In = Some NotIn
marker_negated NotIn = Some In
marker_negated Contains = Some NotContains
marker_negated NotContains = Some Contains

-- the operator of a specifier with the same sign; none for those on texts alone
abbrev pub specifier_operator : MarkerOperator → Option Operator
specifier_operator Equal = Some versions.Equal
specifier_operator NotEqual = Some versions.NotEqual
specifier_operator GreaterThan = Some versions.GreaterThan
specifier_operator GreaterEqual = Some versions.GreaterThanEqual
specifier_operator LessThan = Some versions.LessThan
specifier_operator LessEqual = Some versions.LessThanEqual
specifier_operator TildeEqual = Some versions.TildeEqual
specifier_operator In = None
specifier_operator NotIn = None
specifier_operator Contains = None
specifier_operator NotContains = None

-- the print of an operator between `extra` and a name
abbrev pub extra_operator_text : ExtraOperator → List ℕ
extra_operator_text extras.Equal = codes "=="
extra_operator_text extras.NotEqual = codes "!="

-- the other one of the two
abbrev pub extra_negated : ExtraOperator → ExtraOperator
extra_negated extras.Equal = extras.NotEqual
extra_negated extras.NotEqual = extras.Equal

-- the operator between `extra` and a name, of all operators
abbrev pub extra_operator : MarkerOperator → Option ExtraOperator
extra_operator Equal = Some extras.Equal
extra_operator NotEqual = Some extras.NotEqual
extra_operator GreaterThan = None
extra_operator GreaterEqual = None
extra_operator LessThan = None
extra_operator LessEqual = None
extra_operator TildeEqual = None
extra_operator In = None
extra_operator NotIn = None
extra_operator Contains = None
extra_operator NotContains = None

module _ {T : Type 0} where
  -- the bound that a borrowed one shows
  abbrev pub shown_bound : Bound (Bor T) → Bound T
  shown_bound bound = bound_map (λ value. value.now) bound

  -- the comparison of a lower bound
  abbrev pub lower_term : Bound T → Option (MarkerOperator × T)
  lower_term (Included value) = Some (GreaterEqual, value)
  lower_term (Excluded value) = Some (GreaterThan, value)
  lower_term Unbounded = None

  -- the comparison of an upper bound
  abbrev pub upper_term : Bound T → Option (MarkerOperator × T)
  upper_term (Included value) = Some (LessEqual, value)
  upper_term (Excluded value) = Some (LessThan, value)
  upper_term Unbounded = None

  -- `==` of equal included bounds, `!=` of equal excluded ones
  abbrev pub single_term : (T → T → Bool) → Bound T → Bound T → Option (MarkerOperator × T)
  single_term eq (Included lower) (Included upper) = if eq lower upper then Some (Equal, lower) else None
  single_term eq (Excluded lower) (Excluded upper) = if eq lower upper then Some (NotEqual, lower) else None
  single_term eq (Included lower) (Excluded upper) = None
  single_term eq (Included lower) Unbounded = None
  single_term eq (Excluded lower) (Included upper) = None
  single_term eq (Excluded lower) Unbounded = None
  single_term eq Unbounded upper = None

  abbrev pub single_or_both : Option (MarkerOperator × T) → Bound T → Bound T
      → Option (MarkerOperator × T) × Option (MarkerOperator × T)
  single_or_both (Some term) lower upper = (Some term, None)
  single_or_both None lower upper = (lower_term lower, upper_term upper)

  -- the comparisons of two bounds: one for both, or one for each
  abbrev pub bound_terms : (T → T → Bool) → Bound T → Bound T
      → Option (MarkerOperator × T) × Option (MarkerOperator × T)
  bound_terms eq lower upper = single_or_both (single_term eq lower upper) lower upper
