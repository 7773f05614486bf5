-- What a whole candidate list reads as, by the grammar of its lines.
use Rattle.std.proofs.Common.{◌≡◌, ◌↔◌, ◌∷◌, ◌++◌, [], ℕ, List, All, Some, Result, Ok, Err, ap, subst, ◌∙◌}
use Rattle.std.proofs.lemmas.List.Elements.{All-from_recursion}
use Rattle.std.specs.List.{AllByRecursion, AllZip}
use Rattle.std.specs.Str.{IsUtf8, encode_utf8_all}
use Rattle.pep440_text.specs.Printable.{IsPrintable}
use Rattle.pep440_version.specs.Record.{VersionRecord}
use Rattle.pep440_version.specs.Reading.{version_of}
use Rattle.reqtable_candidates.specs.declared.candidates.Candidate.{Candidate}
use Rattle.reqtable_candidates.specs.declared.candidates.CandidateFault.{CandidateFault}
use Rattle.reqtable_candidates.specs.declared.candidates.CandidatesError.TheVariants.{NotText, Line}
use Rattle.reqtable_candidates.specs.TextLines.{text_lines}
use Rattle.reqtable_candidates.specs.CandidateLine.{candidate_of}
use Rattle.reqtable_candidates.specs.CandidateText.{IsNumberedCandidate, IsFirstFault}
use Rattle.reqtable_candidates.specs.Candidates.{at_line, candidate_at, candidates_of}
use Rattle.reqtable_candidates.proofs.CandidateLines.{VersionLaw}
use Rattle.reqtable_candidates.proofs.CandidateLines.{candidate_found, candidate_again, cause_found, cause_again}
use Rattle.reqtable_candidates.proofs.Lines.{FirstFault, each_found, each_again, fault_found, fault_again}
use Rattle.reqtable_candidates.proofs.Lines.{all_zip_along, all_in_front}
use Rattle.reqtable_candidates.proofs.Texts.{text_is_read, text_found}
use Rattle.reqtable_candidates.proofs.Utf8Lines.{lines_utf8}

abbrev Numbered : Type 0
Numbered = ℕ × List ℕ

abbrev IsText : Numbered → Type 0
IsText line = IsUtf8 line.1

abbrev IsRead : Numbered → Candidate → Type 0
IsRead line candidate = candidate_at line.0 line.1 ≡ Ok candidate

read_by : (number : ℕ) (read : Result Candidate CandidateFault) (candidate : Candidate)
    → at_line number read ≡ Ok candidate → read ≡ Ok candidate
read_by number (Ok other) candidate h = cc
read_by number (Err fault) candidate h = absurd (cc)

at_found : VersionLaw → (line : Numbered) (candidate : Candidate) → IsText line → IsRead line candidate
    → IsNumberedCandidate line candidate
at_found law line candidate u h = candidate_found law line.1 candidate u (read_by line.0 (candidate_of line.1) candidate h)

at_again : VersionLaw → (line : Numbered) (candidate : Candidate) → IsText line → IsNumberedCandidate line candidate
    → IsRead line candidate
at_again law line candidate u h = ap (at_line line.0) (candidate_again law line.1 candidate u h)

pub candidates_read : VersionLaw → (bytes : List ℕ) (candidates : List Candidate)
    → (candidates_of bytes ≡ Ok candidates) ↔ (IsUtf8 bytes × AllZip IsNumberedCandidate (text_lines bytes) candidates)
candidates_read law bytes candidates = (
  λ h. let t = text_found candidate_at NotText bytes (Ok candidates) h (λ offset e. cc) in (
    t.0,
    all_zip_along IsText IsRead IsNumberedCandidate (at_found law) (text_lines bytes) candidates (lines_utf8 bytes t.0)
        (each_found candidate_at (text_lines bytes) candidates t.1),
  ),
  λ h. text_is_read candidate_at NotText bytes h.0
      ∙ each_again candidate_at (text_lines bytes) candidates
      (all_zip_along IsText IsNumberedCandidate IsRead (at_again law) (text_lines bytes) candidates (lines_utf8 bytes h.0) h.1),
)

-- ---- the first fault

cause_by : (at number : ℕ) (cause : CandidateFault) (read : Result Candidate CandidateFault)
    → at_line at read ≡ Err (Line number cause) → (read ≡ Err cause) × (at ≡ number)
cause_by at number cause (Ok candidate) h = absurd (cc)
cause_by at number cause (Err fault) h =
    let same : fault ≡ cause = cc in
    let place : at ≡ number = cc in
    (ap (λ f. Err f) same, place)

first_found : VersionLaw → (lines : List Numbered) (number : ℕ) (cause : CandidateFault) → AllByRecursion IsText lines
    → FirstFault candidate_at lines (Line number cause) → IsFirstFault lines number cause
first_found law lines number cause u f =
    let c = cause_by f.text.0 number cause (candidate_of f.text.1) f.faulty in
    let good = all_in_front IsText f.front f.text f.back (subst (AllByRecursion IsText) f.split u) in
    record {
      front = f.front;
      candidates = f.xs;
      line = f.text.1;
      back = f.back;
      split = f.split ∙ ap (λ n. f.front ++ (n, f.text.1) ∷ f.back) c.1;
      are_candidates = all_zip_along IsText IsRead IsNumberedCandidate (at_found law) f.front f.xs good.0 f.are_read;
      is_fault = cause_found law f.text.1 cause good.1 c.0;
    }

first_again : VersionLaw → (lines : List Numbered) (number : ℕ) (cause : CandidateFault) → AllByRecursion IsText lines
    → IsFirstFault lines number cause → FirstFault candidate_at lines (Line number cause)
first_again law lines number cause u f =
    let good = all_in_front IsText f.front (number, f.line) f.back (subst (AllByRecursion IsText) f.split u) in
    record {
      front = f.front;
      xs = f.candidates;
      text = (number, f.line);
      back = f.back;
      split = f.split;
      are_read = all_zip_along IsText IsNumberedCandidate IsRead (at_again law) f.front f.candidates good.0 f.are_candidates;
      faulty = ap (at_line number) (cause_again law f.line cause good.1 f.is_fault);
    }

pub first_fault : VersionLaw → (bytes : List ℕ) (number : ℕ) (cause : CandidateFault)
    → (candidates_of bytes ≡ Err (Line number cause)) ↔ (IsUtf8 bytes × IsFirstFault (text_lines bytes) number cause)
first_fault law bytes number cause = (
  λ h. let t = text_found candidate_at NotText bytes (Err (Line number cause)) h (λ offset e. cc) in
      (t.0, first_found law (text_lines bytes) number cause (lines_utf8 bytes t.0) (fault_found candidate_at (text_lines bytes) (Line number cause) t.1)),
  λ h. text_is_read candidate_at NotText bytes h.0
      ∙ fault_again candidate_at (text_lines bytes) (Line number cause)
      (first_again law (text_lines bytes) number cause (lines_utf8 bytes h.0) h.1),
)

-- ---- versions

-- what pep440_text says of versions that were read
abbrev pub PrintableLaw : Type 0
PrintableLaw = (text : List ℕ) (version : VersionRecord) → version_of text ≡ Some version → IsPrintable version

all_printable : VersionLaw → PrintableLaw → (lines : List Numbered) (candidates : List Candidate)
    → AllZip IsNumberedCandidate lines candidates → AllByRecursion (λ c. IsPrintable c.version) candidates
all_printable law printable [] [] h = tt
all_printable law printable [] (candidate ∷ candidates) h = absurd h
all_printable law printable (line ∷ lines) [] h = absurd h
all_printable law printable (line ∷ lines) (candidate ∷ candidates) h =
    let text = encode_utf8_all h.0.version in (
      printable text candidate.version ((law text candidate.version).1 h.0.is_version),
      all_printable law printable lines candidates h.1,
    )

pub printable_versions : VersionLaw → PrintableLaw → (bytes : List ℕ) (candidates : List Candidate)
    → candidates_of bytes ≡ Ok candidates → All (λ candidate. IsPrintable candidate.version) candidates
printable_versions law printable bytes candidates h =
    All-from_recursion (λ (candidate : Candidate). IsPrintable candidate.version) candidates
    (all_printable law printable (text_lines bytes) candidates ((candidates_read law bytes candidates).0 h).1)
