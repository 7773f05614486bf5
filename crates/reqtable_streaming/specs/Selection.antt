-- Answers with the candidates that they select in a list of their own.
use Rattle.std.specs.Prelude.{◌≡◌, ◌<◌, List, length, Result, Ok, Err}
use Rattle.std.specs.List.{slice_get, AllZip}
use Rattle.read_outcome.specs.Outcome.{Tells}
use Rattle.pep508_requirement_text.specs.FrontReading.{Front}
use Rattle.reqtable_candidates.specs.Candidates.{told_candidates}
use Rattle.reqtable_candidates.specs.declared.candidates.Candidate.{Candidate}
use Rattle.reqtable_candidates.specs.declared.candidates.CandidatesError.{CandidatesError}
use Rattle.reqtable_answer.specs.Answer.{Admits, RowRecord, IsAnswer}
use Rattle.reqtable_answer.specs.declared.answer.Outcome.{Outcome}
use Rattle.reqtable_answer.specs.declared.answer.Outcome.TheVariants.{Taken, Nothing, Direct}

-- an outcome is another one, whose candidate stands in a list of selected ones
abbrev pub SelectsAs : List Candidate → List Candidate → Outcome → Outcome → Type 0
SelectsAs selected candidates (Taken place) (Taken other) =
    (place < length selected) × (slice_get selected place ≡ slice_get candidates other)
SelectsAs selected candidates (Taken place) Nothing = ⊥
SelectsAs selected candidates (Taken place) Direct = ⊥
SelectsAs selected candidates Nothing (Taken other) = ⊥
SelectsAs selected candidates Nothing Nothing = Unit {0}
SelectsAs selected candidates Nothing Direct = ⊥
SelectsAs selected candidates Direct (Taken other) = ⊥
SelectsAs selected candidates Direct Nothing = ⊥
SelectsAs selected candidates Direct Direct = Unit {0}

-- a row is another one, whose candidate stands in a list of selected ones
pub record IsRowAs (selected candidates : List Candidate) (row other : RowRecord) : Type 0 where
  pub name : row.name ≡ other.name
  pub extras : row.extras ≡ other.extras
  pub outcome : SelectsAs selected candidates row.outcome other.outcome

-- rows are the answer, with the candidates that it selects in a list of their own
pub record IsSelection (admits : Admits) (asks : List Front) (candidates selected : List Candidate)
    (rows : List RowRecord) : Type 0 where
  pub answer : List RowRecord
  pub is_answer : IsAnswer admits asks candidates answer
  pub are_its_rows : AllZip (IsRowAs selected candidates) rows answer

-- what judging returns while candidates are read: what is answered to these candidates; or an error that
-- reports the first fault of their text, or that memory ran out
abbrev pub JudgesRead : {X : Type 0} → (List Candidate → X → Type 0) → Result X CandidatesError
    → Result (List Candidate) CandidatesError → Type 0
JudgesRead Answered (Ok x) reading =
    (candidates : List Candidate) × (reading ≡ Ok candidates) × Answered candidates x
JudgesRead Answered (Err error) reading = Tells (told_candidates error) reading
