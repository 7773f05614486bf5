-- What errors print.
use Rattle.std.specs.Prelude.{ℕ, List, ◌++◌, codes}
use Rattle.std.specs.String.{string_bytes}
use Rattle.pep440_version.specs.declared.parse_error.VersionParseError.{VersionParseError}
use Rattle.pep440_version.specs.declared.parse_error.VersionParseError.TheVariants.{Memory, Wildcard}
use Rattle.pep440_version.specs.declared.parse_error.VersionParseError.TheVariants.{NumberTooBig}
use Rattle.pep440_version.specs.declared.parse_error.VersionParseError.TheVariants.{NoLeadingNumber}
use Rattle.pep440_version.specs.declared.parse_error.VersionParseError.TheVariants.{LocalEmpty, UnexpectedEnd}
use Rattle.pep440_version.specs.declared.parse_error.VersionPatternParseError.{VersionPatternParseError}
use Rattle.pep440_version.specs.declared.parse_error.VersionPatternParseError.TheVariants as patterns

-- the print of why a text is not a version
abbrev pub version_error_text : VersionParseError → List ℕ
version_error_text Memory = codes "out of memory"
version_error_text Wildcard = codes "wildcards are not allowed in a version"
version_error_text (NumberTooBig number) =
    codes "expected number less than or equal to 18446744073709551615, but number found in \""
    ++ string_bytes number ++ codes "\" exceeds it"
version_error_text NoLeadingNumber =
    codes "expected version to start with a number, but no leading ASCII digits were found"
version_error_text LocalEmpty = codes "expected an alphanumeric ASCII segment after `+` or a separator"
version_error_text (UnexpectedEnd version remaining) =
    codes "after parsing `" ++ string_bytes version ++ codes "`, "
    ++ codes "found `" ++ string_bytes remaining ++ codes "`, which is not part of a valid version"

-- the print of why a text is not a pattern
abbrev pub pattern_error_text : VersionPatternParseError → List ℕ
pattern_error_text patterns.Memory = codes "out of memory"
pattern_error_text (patterns.Version error) = version_error_text error
