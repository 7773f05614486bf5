-- What errors tell, and before which faults no memory is taken.
use Rattle.std.proofs.Common.{◌≡◌, ◌≢◌, ℕ, List, [], ◌∷◌, Option, Some, None, Result, Ok, Err, refl, ap, sym}
use Rattle.std.proofs.Common.{◌∙◌}
use Rattle.std.specs.Option.{option_map}
use Rattle.std.specs.Str.{skip_leading_whitespace}
use Rattle.read_outcome.specs.Outcome.{Tells}
use Rattle.pep440_version.specs.Record.{PatternRecord}
use Rattle.pep440_version.specs.declared.parse_error.VersionParseError.{VersionParseError}
use Rattle.pep440_version.specs.declared.parse_error.VersionParseError.TheVariants as versions
use Rattle.pep440_version.specs.declared.parse_error.VersionPatternParseError.{VersionPatternParseError}
use Rattle.pep440_version.specs.declared.parse_error.VersionPatternParseError.TheVariants as patterns
use Rattle.pep440_version.specs.VersionReading.{VersionFault, NoLeadingNumber, told_version, told_pattern}
use Rattle.pep440_operator.specs.declared.operator.Operator.{Operator}
use Rattle.pep440_operator.specs.declared.operator.OperatorParseError.{OperatorParseError}
use Rattle.pep440_operator.specs.declared.operator.OperatorParseError.TheVariants as operators
use Rattle.pep440_operator.specs.OperatorReading.{operator_or_text, told_operator}
use Rattle.pep440_specifier.specs.declared.build_error.VersionSpecifierBuildError.{VersionSpecifierBuildError}
use Rattle.pep440_specifier.specs.declared.parse_error.VersionSpecifierParseError.TheVariants as errors
use Rattle.pep440_specifier.specs.Matching.{SpecifierRecord}
use Rattle.pep440_specifier.specs.Building.{built_of_pattern}
use Rattle.pep440_specifier.specs.SpecifierReading.{InvalidOperator, InvalidVersion, ended, built_before}
use Rattle.pep440_specifier.specs.SpecifierReading.{beside_pattern, beside_operator, IsPlain, HasGrown}

-- an error of a pattern that hides no want of memory tells a fault
version_tells : (error : VersionParseError) → error ≢ versions.Memory → told_version error ≢ None
version_tells versions.Memory n h = n refl
version_tells versions.Wildcard n h = cc
version_tells (versions.NumberTooBig number) n h = cc
version_tells versions.NoLeadingNumber n h = cc
version_tells versions.LocalEmpty n h = cc
version_tells (versions.UnexpectedEnd version remaining) n h = cc

plain_by : (error : VersionPatternParseError) → error ≢ patterns.Memory → error ≢ patterns.Version versions.Memory
    → told_pattern error ≢ None
plain_by patterns.Memory n m h = n refl
plain_by (patterns.Version error) n m h = version_tells error (λ e. m (ap patterns.Version e)) h

told_none : (told : Option VersionFault) → option_map InvalidVersion told ≡ None → told ≡ None
told_none None h = refl
told_none (Some fault) h = absurd (cc)

pub version_is_plain : (error : VersionPatternParseError)
    → error ≢ patterns.Memory → error ≢ patterns.Version versions.Memory → IsPlain (errors.InvalidVersion error)
version_is_plain error n m h = absurd (plain_by error n m (told_none (told_pattern error) h))

-- the fault of a pattern is that of what it stands in
pub tells_version : (operator : Operator) (left : List ℕ) (told : Option VersionFault)
    (read : Result PatternRecord VersionFault) → Tells told read
    → Tells (option_map InvalidVersion told) (beside_pattern operator left read)
tells_version operator left None read h = tt
tells_version operator left (Some fault) read h = ap (beside_pattern operator left) h

-- ---- memory

ended_grown : (left : List ℕ) (specifier : SpecifierRecord) → HasGrown (ended left specifier)
ended_grown [] specifier = (λ h. cc, λ h. cc, λ h. cc)
ended_grown (c ∷ cs) specifier = (λ h. cc, λ h. cc, λ h. cc)

pub built_grown : (left : List ℕ) (made : Result SpecifierRecord VersionSpecifierBuildError)
    → HasGrown (built_before left made)
built_grown left (Ok specifier) = ended_grown (skip_leading_whitespace left) specifier
built_grown left (Err error) = (λ h. cc, λ h. cc, λ h. cc)

fault_grown : (fault : VersionFault) → fault ≢ NoLeadingNumber
    → HasGrown (Err (InvalidVersion fault))
fault_grown fault n = (λ h. cc, λ h. cc, λ h. n (cc))

pub pattern_grown : (operator : Operator) (left : List ℕ) (read : Result PatternRecord VersionFault)
    → read ≢ Err NoLeadingNumber → HasGrown (beside_pattern operator left read)
pattern_grown operator left (Ok pattern) n = built_grown left (built_of_pattern operator pattern)
pattern_grown operator left (Err fault) n = fault_grown fault (λ e. n (ap Err e))

-- ---- operators

pub tells_operator : (left : List ℕ) (told : Option (List ℕ)) (read : Result Operator (List ℕ)) → Tells told read
    → Tells (option_map InvalidOperator told) (beside_operator left read)
tells_operator left None read h = tt
tells_operator left (Some text) read h = ap (beside_operator left) h

pub no_operator_grown : (left text : List ℕ) (found : Option Operator) → found ≡ None
    → HasGrown (beside_operator left (operator_or_text text found))
no_operator_grown left text None e = (λ h. cc, λ h. cc, λ h. cc)
no_operator_grown left text (Some operator) e = absurd (cc)

operator_tells : (error : OperatorParseError) → error ≢ operators.Memory → told_operator error ≢ None
operator_tells operators.Memory n h = n refl
operator_tells (operators.Unknown text) n h = cc

told_no_text : (told : Option (List ℕ)) → option_map InvalidOperator told ≡ None → told ≡ None
told_no_text None h = refl
told_no_text (Some text) h = absurd (cc)

pub operator_is_plain : (error : OperatorParseError) → error ≢ operators.Memory
    → IsPlain (errors.InvalidOperator error)
operator_is_plain error n h = absurd (operator_tells error n (told_no_text (told_operator error) h))
