-- Which operators allow which versions (PEP 440, "Version specifiers").
use Rattle.std.specs.Prelude.{◌≡◌, ℕ, ◌≤◌, ◌&&◌, not, true, false, nat_lt, if◌then◌else◌, List, [], length}
use Rattle.std.specs.Prelude.{Option, Some, None, Result, Ok, Err}
use Rattle.pep440_version.specs.Record.{VersionRecord, PatternRecord, epoch_record, release_record}
use Rattle.pep440_version.specs.Changes.{has_local}
use Rattle.pep440_operator.specs.declared.operator.Operator.{Operator}
use Rattle.pep440_operator.specs.declared.operator.Operator.TheVariants.{EqualStar}
use Rattle.pep440_specifier.specs.declared.build_error.VersionSpecifierBuildError.{VersionSpecifierBuildError}
use Rattle.pep440_specifier.specs.declared.build_error.VersionSpecifierBuildError.TheVariants.{
  OperatorLocalCombo,
  OperatorWithStar,
  CompatibleRelease,
}
use Rattle.pep440_operator.specs.Operators.{is_star, takes_local, is_tilde, starred}
use Rattle.pep440_specifier.specs.Matching.{SpecifierRecord}

-- a version of epoch and release alone, as the one before a star
abbrev pub IsStarVersion : VersionRecord → Type 0
IsStarVersion version = version ≡ epoch_record version.epoch version.release

-- a specifier whose operator allows its version
pub record IsBuilt (specifier : SpecifierRecord) : Type 0 where
  pub local : takes_local specifier.operator ≡ false → specifier.version.local ≡ []
  pub numbers : is_tilde specifier.operator ≡ true → 2 ≤ length specifier.version.release
  pub star : is_star specifier.operator ≡ true → IsStarVersion specifier.version

-- the specifier of an operator and a version, or why there is none: a local part first
abbrev pub built : Operator → VersionRecord → Result SpecifierRecord VersionSpecifierBuildError
built operator version =
    if has_local version && not (takes_local operator) then Err (OperatorLocalCombo operator version)
    else (if is_tilde operator && nat_lt (length version.release) 2 then Err CompatibleRelease
    else Ok (record { operator = operator; version = version }))

abbrev pub built_starred : Operator → Option Operator → VersionRecord
    → Result SpecifierRecord VersionSpecifierBuildError
built_starred operator None version = Err (OperatorWithStar operator)
built_starred operator (Some star) version = built star version

-- the specifier of an operator and a pattern, or why there is none
abbrev pub built_of_pattern : Operator → PatternRecord → Result SpecifierRecord VersionSpecifierBuildError
built_of_pattern operator pattern =
    if pattern.wildcard then built_starred operator (starred operator) pattern.version
    else built operator pattern.version

-- `==` and these release numbers, with a star after them
abbrev pub equal_star : List ℕ → SpecifierRecord
equal_star numbers = record { operator = EqualStar; version = release_record numbers }
