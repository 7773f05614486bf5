-- A candidate list: UTF-8, with a candidate line on each line that is not blank.
use Rattle.std.specs.Prelude.{◌≡◌, ℕ, IsTrue, List, ◌∷◌, ◌++◌, All, Option, Some, None, Result, Ok, Err}
use Rattle.std.specs.Str.{trim}
use Rattle.pep440_text.specs.Printable.{IsPrintable}
use Rattle.reqtable_candidates.specs.declared.candidates.Candidate.{Candidate}
use Rattle.reqtable_candidates.specs.declared.candidates.CandidateFault.{CandidateFault}
use Rattle.reqtable_candidates.specs.declared.candidates.CandidatesError.{CandidatesError}
use Rattle.reqtable_candidates.specs.declared.candidates.CandidatesError.TheVariants.{NotText, Line, Memory}
use Rattle.reqtable_candidates.specs.TextLines.{each_line, lines_of_text}
use Rattle.reqtable_candidates.specs.CandidateLine.{has_name, candidate_of}

abbrev pub at_line : ℕ → Result Candidate CandidateFault → Result Candidate CandidatesError
at_line number (Ok candidate) = Ok candidate
at_line number (Err fault) = Err (Line number fault)

abbrev pub candidate_at : ℕ → List ℕ → Result Candidate CandidatesError
candidate_at number text = at_line number (candidate_of text)

-- the candidates of a list, or the offset of its first byte that is not UTF-8, or else its first line that is
-- not a candidate
abbrev pub candidates_of : List ℕ → Result (List Candidate) CandidatesError
candidates_of = lines_of_text candidate_at NotText

-- each candidate has a version that can be written, whose print is read as that version
abbrev pub HavePrintableVersions : List Candidate → Type 0
HavePrintableVersions = All (λ candidate. IsPrintable candidate.version)

-- the fault of a text for an error; none for running out of memory
abbrev pub told_candidates : CandidatesError → Option CandidatesError
told_candidates (NotText offset) = Some (NotText offset)
told_candidates (Line number cause) = Some (Line number cause)
told_candidates Memory = None

-- reading reaches a line with a name: the lines before it are candidates
pub record IsNameReached (lines : List (ℕ × List ℕ)) : Type 0 where
  pub front : List (ℕ × List ℕ)
  pub candidates : List Candidate
  pub number : ℕ
  pub line : List ℕ
  pub back : List (ℕ × List ℕ)
  pub split : lines ≡ front ++ (number, line) ∷ back
  pub are_candidates : each_line candidate_at front ≡ Ok candidates
  pub is_named : IsTrue (has_name (trim line))
