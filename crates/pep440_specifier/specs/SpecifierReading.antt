-- The reading of the text of a specifier, character by character from its front on: the specifier, or its
-- first fault with the texts in it.
use Rattle.std.specs.Prelude.{◌≡◌, ◌≢◌, ℕ, ◌==◌, Bool, if◌then◌else◌, List, [], ◌∷◌, take, drop, Option}
use Rattle.std.specs.Prelude.{Some, None, Result, Ok, Err, encode_utf8_all}
use Rattle.std.specs.Char.{is_whitespace}
use Rattle.std.specs.List.{before_first, position_or_len}
use Rattle.std.specs.Option.{option_map}
use Rattle.std.specs.Result.{result_ok}
use Rattle.std.specs.Str.{chars, skip_leading_whitespace}
use Rattle.std.specs.String.{string_bytes}
use Rattle.pep440_version.specs.Record.{PatternRecord}
use Rattle.pep440_version.specs.VersionReading.{VersionFault, NoLeadingNumber, pattern_reading, told_pattern}
use Rattle.pep440_operator.specs.declared.operator.Operator.{Operator}
use Rattle.pep440_operator.specs.OperatorReading.{ends_operator, operator_reading, told_operator}
use Rattle.pep440_specifier.specs.declared.build_error.VersionSpecifierBuildError.{VersionSpecifierBuildError}
use Rattle.pep440_specifier.specs.declared.parse_error.VersionSpecifierParseError.{VersionSpecifierParseError}
use Rattle.pep440_specifier.specs.declared.parse_error.VersionSpecifierParseError.TheVariants as errors
use Rattle.pep440_specifier.specs.Matching.{SpecifierRecord}
use Rattle.pep440_specifier.specs.Building.{built_of_pattern}

-- ---- pieces

-- the text before a place, and the characters from there on; nothing where that is the start
abbrev pub cut_at : List ℕ → ℕ → Option (List ℕ × List ℕ)
cut_at text end = if end == 0 then None else Some (take end text, chars (drop end text))

-- the text before the first character that passes a test, and the characters from it on; nothing where the
-- first passes
abbrev pub front_in : (ℕ → Bool) → List ℕ → Option (List ℕ × List ℕ)
front_in test cs =
    if position_or_len test cs == 0 then None
    else Some (encode_utf8_all (before_first test cs), drop (position_or_len test cs) cs)

-- ---- the whole

-- why a text is not a specifier; where its operator or its version is invalid, why that is
pub data SpecifierFault : Type 0 where
  MissingOperator : SpecifierFault
  InvalidOperator : List ℕ → SpecifierFault
  MissingVersion : SpecifierFault
  InvalidVersion : VersionFault → SpecifierFault
  InvalidSpecifier : VersionSpecifierBuildError → SpecifierFault
  InvalidTrailing : List ℕ → SpecifierFault

-- the specifier of a text, or its first fault
abbrev pub Reading : Type 0
Reading = Result SpecifierRecord SpecifierFault

-- nothing may be left
abbrev pub ended : List ℕ → SpecifierRecord → Reading
ended [] specifier = Ok specifier
ended (c ∷ cs) specifier = Err (InvalidTrailing (encode_utf8_all (c ∷ cs)))

abbrev pub built_before : List ℕ → Result SpecifierRecord VersionSpecifierBuildError → Reading
built_before left (Ok specifier) = ended (skip_leading_whitespace left) specifier
built_before left (Err error) = Err (InvalidSpecifier error)

-- the reading of an operator and a pattern's text
abbrev pub beside_pattern : Operator → List ℕ → Result PatternRecord VersionFault → Reading
beside_pattern operator left (Ok pattern) = built_before left (built_of_pattern operator pattern)
beside_pattern operator left (Err fault) = Err (InvalidVersion fault)

abbrev pub before_version : Operator → Option (List ℕ × List ℕ) → Reading
before_version operator None = Err MissingVersion
before_version operator (Some parts) = beside_pattern operator parts.1 (pattern_reading parts.0)

-- what follows an operator
unfoldable pub behind_operator : Operator → List ℕ → Reading
behind_operator operator cs = before_version operator (front_in is_whitespace (skip_leading_whitespace cs))

abbrev pub beside_operator : List ℕ → Result Operator (List ℕ) → Reading
beside_operator left (Ok operator) = behind_operator operator left
beside_operator left (Err text) = Err (InvalidOperator text)

abbrev pub before_operator : Option (List ℕ × List ℕ) → Reading
before_operator None = Err MissingOperator
before_operator (Some parts) = beside_operator parts.1 (operator_reading parts.0)

-- the specifier of a text, or its first fault: white space, an operator, white space, a pattern, white space
unfoldable pub specifier_reading : List ℕ → Reading
specifier_reading text = before_operator (front_in ends_operator (skip_leading_whitespace (chars text)))

-- the specifier that a text is
unfoldable pub specifier_of : List ℕ → Option SpecifierRecord
specifier_of text = result_ok (specifier_reading text)

-- ---- errors

-- the fault that an error reports; none for lack of memory
abbrev pub told_specifier : VersionSpecifierParseError → Option SpecifierFault
told_specifier errors.Memory = None
told_specifier errors.MissingOperator = Some MissingOperator
told_specifier (errors.InvalidOperator error) = option_map InvalidOperator (told_operator error)
told_specifier errors.MissingVersion = Some MissingVersion
told_specifier (errors.InvalidVersion error) = option_map InvalidVersion (told_pattern error)
told_specifier (errors.InvalidSpecifier error) = Some (InvalidSpecifier error)
told_specifier (errors.InvalidTrailing text) = Some (InvalidTrailing (string_bytes text))

-- an error that reports no fault is lack of memory itself, which is never inside another error
abbrev pub IsPlain : VersionSpecifierParseError → Type 0
IsPlain error = told_specifier error ≡ None → error ≡ errors.Memory

-- memory is taken only once an operator and a version's first number are read
abbrev pub HasGrown : Reading → Type 0
HasGrown reading =
    (reading ≢ Err MissingOperator) × (reading ≢ Err MissingVersion)
    × (reading ≢ Err (InvalidVersion NoLeadingNumber))
