-- Which texts are candidate lines, by their characters: a name, white space and a version (PEP 508, "Names";
-- PEP 440, "Version scheme"), optionally with white space around them.
use Rattle.std.specs.Prelude.{◌≡◌, ℕ, ◌<◌, IsTrue, List, ◌++◌, ◌∷◌, length, Some, None, encode_utf8_all}
use Rattle.std.specs.List.{AllByRecursion, AllZip}
use Rattle.std.specs.Char.{is_whitespace}
use Rattle.std.specs.Str.{chars, NonePass, skip_leading_whitespace, drop_trailing_whitespace}
use Rattle.pep440_version.specs.Record.{VersionRecord}
use Rattle.pep440_version.specs.Text.{IsVersionText}
use Rattle.pep508_name.specs.Name.{name_of}
use Rattle.reqtable_candidates.specs.declared.candidates.Candidate.{Candidate}
use Rattle.reqtable_candidates.specs.declared.candidates.CandidateFault.{CandidateFault}
use Rattle.reqtable_candidates.specs.declared.candidates.CandidateFault.TheVariants.{Shape, Name, Version}

-- only white space, or nothing
abbrev pub AreWhite : List ℕ → Type 0
AreWhite = AllByRecursion (λ c. IsTrue (is_whitespace c))

-- one or more characters, of which the first and the last are not white space
pub record IsBare (cs : List ℕ) : Type 0 where
  pub some : 0 < length cs
  pub front : skip_leading_whitespace cs ≡ cs
  pub back : drop_trailing_whitespace cs ≡ cs

-- the characters of a line are a first word, white space, and a rest that doesn't end in white space, with
-- optional white space around
pub record AreItsParts (line name version : List ℕ) : Type 0 where
  pub before : List ℕ
  pub between : List ℕ
  pub after : List ℕ
  pub pieces : chars line ≡ before ++ (name ++ (between ++ (version ++ after)))
  pub is_before : AreWhite before
  pub is_between : AreWhite between
  pub is_after : AreWhite after
  pub some_name : 0 < length name
  pub is_word : NonePass is_whitespace name
  pub some_between : 0 < length between
  pub is_bare : IsBare version

-- the line is that of the candidate
pub record IsCandidateLine (line : List ℕ) (candidate : Candidate) : Type 0 where
  pub name : List ℕ
  pub version : List ℕ
  pub are_parts : AreItsParts line name version
  pub is_name : name_of (encode_utf8_all name) ≡ Some candidate.name
  pub is_version : IsVersionText (encode_utf8_all version) candidate.version

-- the first word is not a name
pub record LacksName (line : List ℕ) : Type 0 where
  pub name : List ℕ
  pub version : List ℕ
  pub are_parts : AreItsParts line name version
  pub is_none : name_of (encode_utf8_all name) ≡ None

-- the first word is a name, and the rest is not a version
pub record LacksVersion (line : List ℕ) : Type 0 where
  pub name : List ℕ
  pub version : List ℕ
  pub normal : List ℕ
  pub are_parts : AreItsParts line name version
  pub is_name : name_of (encode_utf8_all name) ≡ Some normal
  pub is_none : (read : VersionRecord) → IsVersionText (encode_utf8_all version) read → ⊥

-- the first of these faults of a line that is not a candidate
abbrev pub IsCandidateFault : List ℕ → CandidateFault → Type 0
IsCandidateFault line Shape = (name version : List ℕ) → AreItsParts line name version → ⊥
IsCandidateFault line Name = LacksName line
IsCandidateFault line Version = LacksVersion line

-- the candidate is that of a numbered line
abbrev pub IsNumberedCandidate : ℕ × List ℕ → Candidate → Type 0
IsNumberedCandidate line candidate = IsCandidateLine line.1 candidate

-- the first of some numbered lines that is not a candidate has this number, and this is wrong with it
pub record IsFirstFault (lines : List (ℕ × List ℕ)) (number : ℕ) (cause : CandidateFault) : Type 0 where
  pub front : List (ℕ × List ℕ)
  pub candidates : List Candidate
  pub line : List ℕ
  pub back : List (ℕ × List ℕ)
  pub split : lines ≡ front ++ (number, line) ∷ back
  pub are_candidates : AllZip IsNumberedCandidate front candidates
  pub is_fault : IsCandidateFault line cause
