-- The reading of the text of a version or a pattern: its record, or its first fault with the texts in it.
use Rattle.std.specs.Prelude.{ℕ, ◌-◌, List, length, take, drop, Option, Some, None, Result, Ok, Err}
use Rattle.std.specs.String.{string_bytes}
use Rattle.pep440_text.specs.declared.FaultKind.{FaultKind}
use Rattle.pep440_text.specs.declared.FaultKind.TheVariants as kinds
use Rattle.pep440_text.specs.declared.TextFault.{TextFault}
use Rattle.pep440_text.specs.Record.{VersionRecord, PatternRecord}
use Rattle.pep440_text.specs.Reading.{leading_digits, read_version, read_pattern}
use Rattle.pep440_version.specs.declared.parse_error.VersionParseError.{VersionParseError}
use Rattle.pep440_version.specs.declared.parse_error.VersionParseError.TheVariants as errors
use Rattle.pep440_version.specs.declared.parse_error.VersionPatternParseError.{VersionPatternParseError}
use Rattle.pep440_version.specs.declared.parse_error.VersionPatternParseError.TheVariants as patterns

-- why a text is not a version: the digits of a number past 64 bits; what was read, and what is left after
-- it
pub data VersionFault : Type 0 where
  Wildcard : VersionFault
  NumberTooBig : List ℕ → VersionFault
  NoLeadingNumber : VersionFault
  LocalEmpty : VersionFault
  UnexpectedEnd : List ℕ → List ℕ → VersionFault

-- the fault of a kind between what was read and what is left
abbrev pub fault_between : FaultKind → List ℕ → List ℕ → VersionFault
fault_between kinds.Wildcard before rest = Wildcard
fault_between kinds.NumberTooBig before rest = NumberTooBig (leading_digits rest)
fault_between kinds.NoLeadingNumber before rest = NoLeadingNumber
fault_between kinds.LocalEmpty before rest = LocalEmpty
fault_between kinds.UnexpectedEnd before rest = UnexpectedEnd before rest

-- a fault with its texts, which are those of the text that has it
abbrev pub fault_in : List ℕ → TextFault → VersionFault
fault_in text fault =
    let at = length text - fault.left in fault_between fault.kind (take at text) (drop at text)

-- a reading with the texts of its fault
abbrev pub with_texts : {A : Type 0} → List ℕ → Result A TextFault → Result A VersionFault
with_texts text (Ok x) = Ok x
with_texts text (Err fault) = Err (fault_in text fault)

-- the version that a text is, or its first fault (PEP 440, "Version scheme" and Appendix B)
unfoldable pub version_reading : List ℕ → Result VersionRecord VersionFault
version_reading text = with_texts text (read_version text)

-- the pattern that a text is, or its first fault (PEP 440, "Version matching")
unfoldable pub pattern_reading : List ℕ → Result PatternRecord VersionFault
pattern_reading text = with_texts text (read_pattern text)

-- the fault that an error reports; none for lack of memory
abbrev pub told_version : VersionParseError → Option VersionFault
told_version errors.Memory = None
told_version errors.Wildcard = Some Wildcard
told_version (errors.NumberTooBig number) = Some (NumberTooBig (string_bytes number))
told_version errors.NoLeadingNumber = Some NoLeadingNumber
told_version errors.LocalEmpty = Some LocalEmpty
told_version (errors.UnexpectedEnd version remaining) =
    Some (UnexpectedEnd (string_bytes version) (string_bytes remaining))

-- and that of a pattern
abbrev pub told_pattern : VersionPatternParseError → Option VersionFault
told_pattern patterns.Memory = None
told_pattern (patterns.Version error) = told_version error
