-- A candidate line: between optional white space a name, white space, and a version.
use Rattle.std.specs.Prelude.{ℕ, Bool, false, List, if◌then◌else◌, encode_utf8_all}
use Rattle.std.specs.Prelude.{Option, Some, None, Result, Ok, Err}
use Rattle.std.specs.Option.{option_map_or}
use Rattle.std.specs.List.{list_any, before_first, after_first}
use Rattle.std.specs.Char.{is_whitespace}
use Rattle.std.specs.Str.{chars, trim, trim_start}
use Rattle.pep440_version.specs.Record.{VersionRecord}
use Rattle.pep440_version.specs.Reading.{version_of}
use Rattle.pep508_name.specs.Name.{is_name, name_of}
use Rattle.reqtable_candidates.specs.declared.candidates.Candidate.{Candidate}
use Rattle.reqtable_candidates.specs.declared.candidates.CandidateFault.{CandidateFault}
use Rattle.reqtable_candidates.specs.declared.candidates.CandidateFault.TheVariants as faults

-- the text before the first white space, and what follows that run of white space
abbrev pub name_text : List ℕ → List ℕ
name_text body = encode_utf8_all (before_first is_whitespace (chars body))

abbrev pub version_text_of : List ℕ → List ℕ
version_text_of body = trim_start (encode_utf8_all (after_first is_whitespace (chars body)))

-- the name and the version, if there is white space
abbrev pub parts_in : List ℕ → Option (List ℕ × List ℕ)
parts_in body =
    if list_any is_whitespace (chars body) then Some (name_text body, version_text_of body) else None

-- whether there is a name before the white space
abbrev pub has_name : List ℕ → Bool
has_name body = option_map_or (λ parts. is_name parts.0) (parts_in body) false

-- a candidate with a name and a version, or which of them is invalid, the name first
abbrev pub candidate_by : Option (List ℕ) → Option VersionRecord → Result Candidate CandidateFault
candidate_by None version = Err faults.Name
candidate_by (Some name) None = Err faults.Version
candidate_by (Some name) (Some version) = Ok (record { name = name; version = version })

abbrev pub candidate_in : Option (List ℕ × List ℕ) → Result Candidate CandidateFault
candidate_in None = Err faults.Shape
candidate_in (Some parts) = candidate_by (name_of parts.0) (version_of parts.1)

-- the candidate of a line, or the first of shape, name and version that is wrong
unfoldable pub candidate_of : List ℕ → Result Candidate CandidateFault
candidate_of line = candidate_in (parts_in (trim line))
