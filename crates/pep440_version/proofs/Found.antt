-- A reading finds what the text is.
use Rattle.std.proofs.Common.{◌≡◌, ℕ, List, Some, None, Result, Ok, Err, refl, ap, sym, ◌∙◌}
use Rattle.std.specs.Result.{result_ok}
use Rattle.pep440_text.specs.declared.TextFault.{TextFault}
use Rattle.pep440_text.specs.Record.{VersionRecord, PatternRecord}
use Rattle.pep440_text.specs.Reading.{read_version, read_pattern, version_of, pattern_of}
use Rattle.pep440_version.specs.VersionReading.{VersionFault, with_texts, version_reading, pattern_reading}

same_value : {Y : Type 0} (text : List ℕ) (read : Result Y TextFault) → result_ok (with_texts text read) ≡ result_ok read
same_value text (Ok x) = refl
same_value text (Err fault) = refl

pub version_found : (text : List ℕ) → version_of text ≡ result_ok (version_reading text)
unfolding version_of version_reading
version_found text = sym (same_value text (read_version text))

pub pattern_found : (text : List ℕ) → pattern_of text ≡ result_ok (pattern_reading text)
unfolding pattern_of pattern_reading
pattern_found text = sym (same_value text (read_pattern text))

-- by the outcome of the reading
pub is_version : (text : List ℕ) (version : VersionRecord) → version_reading text ≡ Ok version → version_of text ≡ Some version
is_version text version e = version_found text ∙ ap result_ok e

pub is_no_version : (text : List ℕ) (fault : VersionFault) → version_reading text ≡ Err fault → version_of text ≡ None
is_no_version text fault e = version_found text ∙ ap result_ok e

pub is_pattern : (text : List ℕ) (pattern : PatternRecord) → pattern_reading text ≡ Ok pattern → pattern_of text ≡ Some pattern
is_pattern text pattern e = pattern_found text ∙ ap result_ok e

pub is_no_pattern : (text : List ℕ) (fault : VersionFault) → pattern_reading text ≡ Err fault → pattern_of text ≡ None
is_no_pattern text fault e = pattern_found text ∙ ap result_ok e

-- for callers that ask only whether a text is a version, or a pattern
pub ruleset reads_found = (is_version, is_no_version, is_pattern, is_no_pattern)
