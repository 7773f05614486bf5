-- What judging returns, as far as candidates were read.
use Rattle.std.proofs.Common.{◌≡◌, ◌∙◌, List, Result, Ok, Err, sym, subst}
use Rattle.std.specs.Result.{IsErrAnd}
use Rattle.read_outcome.specs.Outcome.{Tells}
use Rattle.reqtable_candidates.specs.Candidates.{told_candidates}
use Rattle.reqtable_candidates.specs.declared.candidates.Candidate.{Candidate}
use Rattle.reqtable_candidates.specs.declared.candidates.CandidatesError.{CandidatesError}
use Rattle.reqtable_streaming.specs.Selection.{JudgesRead}

-- an error that is passed on tells what it told
pub judges_err : {X : Type 0} (Answered : List Candidate → X → Type 0) (result : Result X CandidatesError) (error : CandidatesError)
    (reading : Result (List Candidate) CandidatesError) → IsErrAnd result (λ e. e ≡ error)
    → Tells (told_candidates error) reading → JudgesRead Answered result reading
judges_err Answered (Ok x) error reading h t = absurd h
judges_err Answered (Err e) error reading h t =
    let P : CandidatesError → Type 0 = λ e. Tells (told_candidates e) reading in subst P (sym h) t

-- what is said of the answer, by what it follows from
pub judges_mapped : {X : Type 0} (A B : List Candidate → X → Type 0) (result : Result X CandidatesError)
    (inner outer : Result (List Candidate) CandidatesError) → outer ≡ inner
    → ((read : List Candidate) (x : X) → A read x → B read x) → JudgesRead A result inner → JudgesRead B result outer
judges_mapped A B (Ok x) inner outer e f h = (h.0, e ∙ h.1, f h.0 x h.2)
judges_mapped A B (Err error) inner outer e f h =
    let P : Result (List Candidate) CandidatesError → Type 0 = λ r. Tells (told_candidates error) r in subst P (sym e) h
