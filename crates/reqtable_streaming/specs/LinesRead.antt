-- Lines of candidates, read one after another and offered.
use Rattle.std.specs.Prelude.{◌≡◌, List, ℕ, Result, Ok, Err}
use Rattle.std.specs.Str.Lines.{strip_carriage_return}
use Rattle.read_outcome.specs.Outcome.{Tells}
use Rattle.reqtable_candidates.specs.TextLines.{without_comment}
use Rattle.reqtable_candidates.specs.Candidates.{told_candidates}
use Rattle.reqtable_candidates.specs.declared.candidates.Candidate.{Candidate}
use Rattle.reqtable_candidates.specs.declared.candidates.CandidatesError.{CandidatesError}

-- a line without its end and its comment
abbrev pub text_of : List ℕ → List ℕ
text_of line = without_comment (strip_carriage_return line)

-- what reading a line returns: it is that of a candidate, which was offered; or an error that reports its
-- fault, or that memory ran out
abbrev pub OffersRead : {X : Type 0} → (Candidate → Type 0) → Result X CandidatesError
    → Result Candidate CandidatesError → Type 0
OffersRead Offered (Ok x) reading = (candidate : Candidate) × (reading ≡ Ok candidate) × Offered candidate
OffersRead Offered (Err error) reading = Tells (told_candidates error) reading
