-- The prints of the errors of specifiers.
use Rattle.std.specs.Prelude.{ℕ, List, ◌++◌, codes}
use Rattle.std.specs.String.{string_bytes}
use Rattle.pep440_version.specs.Print.{version_text}
use Rattle.pep440_version.specs.ErrorPrints.{pattern_error_text}
use Rattle.pep440_operator.specs.declared.operator.OperatorParseError.TheVariants as operators
use Rattle.pep440_specifier.specs.declared.build_error.VersionSpecifierBuildError.{VersionSpecifierBuildError}
use Rattle.pep440_specifier.specs.declared.build_error.VersionSpecifierBuildError.TheVariants as builds
use Rattle.pep440_specifier.specs.declared.parse_error.VersionSpecifierParseError.{VersionSpecifierParseError}
use Rattle.pep440_specifier.specs.declared.parse_error.VersionSpecifierParseError.TheVariants as errors
use Rattle.pep440_operator.specs.OperatorPrint.{operator_text}
use Rattle.pep440_operator.specs.OperatorErrors.{operator_error_text}

-- the print of why an operator and a version make no specifier
abbrev pub build_error_text : VersionSpecifierBuildError → List ℕ
build_error_text builds.Memory = codes "out of memory"
build_error_text (builds.OperatorLocalCombo operator version) =
    codes "Operator " ++ operator_text operator
    ++ codes " is incompatible with versions containing non-empty local segments (`" ++ version_text version
    ++ codes "`)"
build_error_text (builds.OperatorWithStar operator) =
    codes "Operator " ++ operator_text operator ++ codes " cannot be used with a wildcard version specifier"
build_error_text builds.CompatibleRelease =
    codes "The ~= operator requires at least two segments in the release version"

-- the print of why a text is not a specifier
abbrev pub specifier_error_text : VersionSpecifierParseError → List ℕ
specifier_error_text errors.Memory = codes "out of memory"
specifier_error_text errors.MissingOperator = codes "Unexpected end of version specifier, expected operator"
specifier_error_text (errors.InvalidOperator error) = operator_error_text error
specifier_error_text errors.MissingVersion = codes "Unexpected end of version specifier, expected version"
specifier_error_text (errors.InvalidVersion error) = pattern_error_text error
specifier_error_text (errors.InvalidSpecifier error) = build_error_text error
specifier_error_text (errors.InvalidTrailing text) =
    codes "Trailing `" ++ string_bytes text ++ codes "` is not allowed"
