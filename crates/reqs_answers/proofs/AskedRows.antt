-- Environments of which a table is asked one after another, and whether a row is `none`.
use Rattle.std.proofs.Common.{◌≡◌, ◌∙◌, ◌++◌, ◌+◌, ◌<◌, ◌≤◌, ◌∷◌, ◌||◌, [], ℕ, List, Bool, true, false}
use Rattle.std.proofs.Common.{length, take, get_or, ap, refl, sym, subst}
use Rattle.std.specs.List.{list_any, AllZip}
use Rattle.std.proofs.lemmas.List.{take_all, take_more}
use Rattle.std.proofs.lemmas.List.Folds.{list_any-append}
use Rattle.std.specs.Borrow.{Bor}
use Rattle.pep440_version.specs.Record.{VersionRecord}
use Rattle.pep508_tree.specs.Meaning.{NodeRecord}
use Rattle.pep508_environment.specs.Environment.{EnvironmentRecord}
use Rattle.pep508_evaluation.specs.Valuations.{valuation_of}
use Rattle.reqtable_candidates.specs.declared.candidates.Candidate.{Candidate}
use Rattle.reqtable_answer.specs.Answer.{RowRecord, IsAnswer}
use Rattle.reqtable_requirements.specs.Asks.{asks_of}
use Rattle.reqtable_requirements.specs.LineReading.{LineRecord}
use Rattle.reqtable_table.specs.Answers.{SamePackage}
use Rattle.reqtable_table.specs.Kept.{KeptPackage}
use Rattle.reqtable_table.specs.Runs.{RunsRecord, AreRunsOf, AreTold}
use Rattle.reqtable_table.proofs.Same.{has_cases}
use Rattle.reqs_json.specs.declared.format.Format.{Format}
use Rattle.reqs_rows.specs.declared.answering.Answering.{Answering}
use Rattle.reqs_rows.specs.Ready.{IsReady}
use Rattle.reqs_rows.specs.Seen.{pieces_of}
use Rattle.reqs_rows.proofs.Going.{are_known_same}
use Rattle.reqs_answers.specs.Check.{on_request}
use Rattle.reqs_answers.specs.Matrix.{AreAnswers}
use Rattle.reqs_answers.specs.Strict.{has_none}
use Rattle.reqs_answers.proofs.Framed.{zip_more}

-- a table that was asked goes on to be ready
pub asked_on : (callable : Type 0) (returns : Bor VersionRecord → Bool → Bool → Type 0) (format : Format)
    (nodes : List NodeRecord) (candidates : List Candidate) (run : Answering) (table : List KeptPackage) (runs : RunsRecord)
    → AllZip SamePackage table run.table → AreRunsOf table runs → AreTold returns table runs
    → runs.candidates ≡ run.runs.candidates → IsReady callable returns format nodes candidates run
    → IsReady callable returns format nodes candidates (record run { table = table; runs = runs })
asked_on callable returns format nodes candidates run table runs same are told kept ready = record {
  is_callable = ready.is_callable;
  cases = has_cases nodes table run.table same ready.cases;
  runs = are;
  told = told;
  selects = kept ∙ ready.selects;
  separated = ready.separated;
  known =
      are_known_same format returns nodes candidates table run.table same run.text.texts (pieces_of run.known.items)
      ready.known;
}

-- there are answers for the environments before a place, and whether a row of theirs is `none`
pub record AreAsked (extras : List (List ℕ)) (lines : List LineRecord) (candidates : List Candidate)
    (all : List EnvironmentRecord) (place : ℕ) (found : Bool) : Type 0 where
  pub answers : List (List RowRecord)
  pub are : AreAnswers on_request extras lines candidates (take place all) answers
  pub is : found ≡ list_any has_none answers

or_no_more : (b : Bool) → b ≡ (b || false)
or_no_more true = refl
or_no_more false = refl

module _ (extras : List (List ℕ)) (lines : List LineRecord) (candidates : List Candidate) (all : List EnvironmentRecord) where
  pub none_asked : AreAsked extras lines candidates all 0 false
  none_asked = record { answers = []; are = tt; is = refl }

  pub one_asked : (place : ℕ) (x : EnvironmentRecord) → place < length all → x ≡ get_or all place x → (found : Bool)
      → AreAsked extras lines candidates all place found → (rows : List RowRecord)
      → IsAnswer on_request (asks_of (valuation_of x extras) lines) candidates rows
      → AreAsked extras lines candidates all (place + 1) (found || has_none rows)
  one_asked place x below is found so_far rows answered =
      let R : EnvironmentRecord → List RowRecord → Type 0 =
      λ environment rows. IsAnswer on_request (asks_of (valuation_of environment extras) lines) candidates rows in
      let more = zip_more R (take place all) so_far.answers x rows so_far.are answered in
      let upto : take (place + 1) all ≡ take place all ++ x ∷ [] =
      take_more all place x below ∙ ap (λ y. take place all ++ y ∷ []) (sym is) in
      record {
        answers = so_far.answers ++ rows ∷ [];
        are = subst (λ (some : List EnvironmentRecord). AllZip R some (so_far.answers ++ rows ∷ [])) (sym upto) more;
        is = ap (λ b. b || has_none rows) so_far.is
            ∙ ap (λ b. list_any has_none so_far.answers || b) (or_no_more (has_none rows))
            ∙ sym (list_any-append has_none so_far.answers (rows ∷ []));
      }

  pub all_asked : (place : ℕ) → length all ≤ place → (found : Bool) → AreAsked extras lines candidates all place found
      → (answers : List (List RowRecord)) × AreAnswers on_request extras lines candidates all answers
      × (found ≡ list_any has_none answers)
  all_asked place past found so_far = (
    so_far.answers,
    subst (λ some. AreAnswers on_request extras lines candidates some so_far.answers) (take_all place all past) so_far.are,
    so_far.is,
  )
