-- What an error prints is found by the fault that it tells.
use Rattle.std.proofs.Common.{◌≡◌, ◌∙◌, ℕ, List, ◌++◌, codes, Option, Some, None, ap, refl, sym}
use Rattle.std.specs.Option.{option_map}
use Rattle.pep440_version.specs.VersionReading.{VersionFault, Wildcard, NumberTooBig, NoLeadingNumber}
use Rattle.pep440_version.specs.VersionReading.{LocalEmpty, UnexpectedEnd, told_version}
use Rattle.pep440_version.specs.ErrorPrints.{version_error_text}
use Rattle.pep440_version.specs.declared.parse_error.VersionParseError.{VersionParseError}
use Rattle.pep440_version.specs.declared.parse_error.VersionParseError.TheVariants as versions
use Rattle.pep440_version.specs.declared.parse_error.VersionPatternParseError.TheVariants as patterns
use Rattle.pep440_operator.specs.declared.operator.OperatorParseError.TheVariants as operators
use Rattle.pep440_specifier.specs.SpecifierErrorPrints.{build_error_text, specifier_error_text}
use Rattle.pep440_specifier.specs.SpecifierReading.{SpecifierFault, MissingOperator, InvalidOperator}
use Rattle.pep440_specifier.specs.SpecifierReading.{MissingVersion, InvalidVersion, InvalidSpecifier}
use Rattle.pep440_specifier.specs.SpecifierReading.{InvalidTrailing, told_specifier}
use Rattle.pep440_specifier.specs.declared.parse_error.VersionSpecifierParseError.{VersionSpecifierParseError}
use Rattle.pep440_specifier.specs.declared.parse_error.VersionSpecifierParseError.TheVariants as errors

-- ---- versions

abbrev version_message : Option VersionFault → List ℕ
version_message None = version_error_text versions.Memory
version_message (Some Wildcard) = version_error_text versions.Wildcard
version_message (Some (NumberTooBig number)) =
    codes "expected number less than or equal to 18446744073709551615, but number found in \""
    ++ number ++ codes "\" exceeds it"
version_message (Some NoLeadingNumber) = version_error_text versions.NoLeadingNumber
version_message (Some LocalEmpty) = version_error_text versions.LocalEmpty
version_message (Some (UnexpectedEnd version remaining)) =
    codes "after parsing `" ++ version ++ codes "`, "
    ++ codes "found `" ++ remaining ++ codes "`, which is not part of a valid version"

version_prints : (error : VersionParseError) → version_error_text error ≡ version_message (told_version error)
version_prints versions.Memory = refl
version_prints versions.Wildcard = refl
version_prints (versions.NumberTooBig number) = refl
version_prints versions.NoLeadingNumber = refl
version_prints versions.LocalEmpty = refl
version_prints (versions.UnexpectedEnd version remaining) = refl

-- errors that tell the same print the same
pub one_version_message : (error other : VersionParseError) → told_version error ≡ told_version other
    → version_error_text error ≡ version_error_text other
one_version_message error other same =
    version_prints error ∙ ap version_message same ∙ sym (version_prints other)

-- ---- specifiers

abbrev specifier_message : Option SpecifierFault → List ℕ
specifier_message None = specifier_error_text errors.Memory
specifier_message (Some MissingOperator) = specifier_error_text errors.MissingOperator
specifier_message (Some (InvalidOperator text)) =
    codes "no such comparison operator \"" ++ text ++ codes "\", must be one of ~= == != <= >= < > ==="
specifier_message (Some MissingVersion) = specifier_error_text errors.MissingVersion
specifier_message (Some (InvalidVersion fault)) = version_message (Some fault)
specifier_message (Some (InvalidSpecifier error)) = build_error_text error
specifier_message (Some (InvalidTrailing text)) = codes "Trailing `" ++ text ++ codes "` is not allowed"

of_version : (told : Option VersionFault)
    → version_message told ≡ specifier_message (option_map InvalidVersion told)
of_version None = refl
of_version (Some fault) = refl

specifier_prints : (error : VersionSpecifierParseError)
    → specifier_error_text error ≡ specifier_message (told_specifier error)
specifier_prints errors.Memory = refl
specifier_prints errors.MissingOperator = refl
specifier_prints (errors.InvalidOperator operators.Memory) = refl
specifier_prints (errors.InvalidOperator (operators.Unknown text)) = refl
specifier_prints errors.MissingVersion = refl
specifier_prints (errors.InvalidVersion patterns.Memory) = refl
specifier_prints (errors.InvalidVersion (patterns.Version error)) =
    version_prints error ∙ of_version (told_version error)
specifier_prints (errors.InvalidSpecifier error) = refl
specifier_prints (errors.InvalidTrailing text) = refl

-- errors that tell the same print the same
pub one_specifier_message : (error other : VersionSpecifierParseError)
    → told_specifier error ≡ told_specifier other → specifier_error_text error ≡ specifier_error_text other
one_specifier_message error other same =
    specifier_prints error ∙ ap specifier_message same ∙ sym (specifier_prints other)
