-- What holds while environments are answered one after another.
use Rattle.std.specs.Prelude.{◌≡◌, ◌++◌, ℕ, Bool, List, false}
use Rattle.std.specs.Borrow.{Bor}
use Rattle.pep440_version.specs.Record.{VersionRecord}
use Rattle.pep508_tree.specs.Meaning.{NodeRecord}
use Rattle.pep508_environment.specs.Environment.{EnvironmentRecord}
use Rattle.pep508_evaluation.specs.Valuations.{valuation_of}
use Rattle.reqtable_answer.specs.Admission.{AnswersBy}
use Rattle.reqtable_answer.specs.Answer.{RowRecord, IsAnswer}
use Rattle.reqtable_requirements.specs.Asks.{asks_of}
use Rattle.reqtable_requirements.specs.LineReading.{LineRecord}
use Rattle.reqs_json.specs.Rows.{rows_in}
use Rattle.reqs_rows.specs.declared.answering.Answering.{Answering}
use Rattle.reqs_rows.specs.declared.row_query.Query.{Query}
use Rattle.reqs_rows.specs.Ready.{IsReadyFor}
use Rattle.reqs_answers.specs.Frames.{head, foot}
use Rattle.reqs_answers.specs.Check.{on_request}

abbrev pub nodes_in : Query → List NodeRecord
nodes_in query = query.interner.now.nodes

-- all is ready for the next answer, by a test that admits on request
pub record IsReadyOnRequest (callable : Type 0) (returns : Bor VersionRecord → Bool → Bool → Type 0)
    (query : Query) (run : Answering) : Type 0 where
  pub admits : AnswersBy returns on_request
  pub ready : IsReadyFor callable returns query run

-- the answer for an environment with this number was appended to a text
abbrev pub PutsEnvironment : Query → EnvironmentRecord → ℕ → List LineRecord → List ℕ → List ℕ → Type 0
PutsEnvironment query environment number lines old new =
    (rows : List RowRecord)
    × IsAnswer on_request (asks_of (valuation_of environment query.extras.now) lines) query.candidates.now
    rows
    × (new ≡ old ++ (head query.format number
    ++ (rows_in query.format query.candidates.now false rows ++ foot query.format)))
