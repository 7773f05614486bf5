-- The candidates of a table's packages, in order, and the known outcomes of their cases.
use Rattle.std.specs.Prelude.{◌≡◌, ◌<◌, ℕ, Bool, List, [], ◌∷◌, map, filter, length}
use Rattle.std.specs.Prelude.{get_or, Option, Some, None}
use Rattle.std.specs.List.{AllZip, AllByRecursion}
use Rattle.std.specs.Borrow.{Bor}
use Rattle.pep440_version.specs.Record.{VersionRecord}
use Rattle.pep508_diagram.specs.Question.{Valuation}
use Rattle.pep508_tree.specs.Meaning.{NodeRecord}
use Rattle.pep508_cases.specs.Cases.{Marks}
use Rattle.reqtable_candidates.specs.Candidates.{HavePrintableVersions}
use Rattle.reqtable_candidates.specs.Ordered.{AreInOrder}
use Rattle.reqtable_candidates.specs.declared.candidates.Candidate.{Candidate}
use Rattle.reqtable_answer.specs.Admission.{Admits, AnswersBy}
use Rattle.reqtable_answer.specs.Asks.{is_candidate}
use Rattle.reqtable_answer.specs.Rows.{IsTakenBelow}
use Rattle.reqtable_answer.specs.declared.answer.Outcome.{Outcome}
use Rattle.pep508_cases.specs.Sets.{marked}
use Rattle.reqtable_table.specs.Answers.{IsPlaceIn}
use Rattle.reqtable_table.specs.Choosing.{case_asks, outcome_in_order}
use Rattle.reqtable_table.specs.Kept.{KeptCase, KeptPackage}

-- a package's candidates, and for each of its cases the outcome, if it is known
pub record OwnRecord : Type 0 where
  pub run : List (ℕ × Candidate)
  pub told : List (Option Outcome)

-- the candidates of a list, all of them in order with their places, and the parts of these for each package
pub record RunsRecord : Type 0 where
  pub candidates : List Candidate
  pub placed : List (ℕ × Candidate)
  pub runs : List (List (ℕ × Candidate))
  pub told : List (List (Option Outcome))

-- the candidates are of a list that was read from a text, in their sorted order
pub record AreOrdered (candidates : List Candidate) (placed : List (ℕ × Candidate)) : Type 0 where
  pub in_order : AreInOrder candidates placed
  pub printable : HavePrintableVersions candidates

-- there is a part for each package, which has its candidates
abbrev pub AreRunsOf : List KeptPackage → RunsRecord → Type 0
AreRunsOf table all = AllZip (λ kept run. run ≡ filter (is_candidate kept.name) all.placed) table all.runs

-- the known outcomes of a package are right for a closure with these results: each is that of its case's
-- lines
pub record IsTold (returns : Bor VersionRecord → Bool → Bool → Type 0) (kept : KeptPackage) (own : OwnRecord)
    : Type 0 where
  pub right : (admits : Admits) → AnswersBy returns admits →
      (place : ℕ) (marks : Marks) (other : KeptCase) (outcome : Outcome) →
      get_or own.told place None ≡ Some outcome → length marks ≡ length kept.lines →
      (get_or kept.cases place other).numbers ≡ map (λ line. line.number) (marked marks kept.lines) →
      outcome ≡ outcome_in_order admits (case_asks marks kept.lines) own.run
  pub below : (count place : ℕ) (outcome : Outcome) → get_or own.told place None ≡ Some outcome →
      AllByRecursion (λ c. c.0 < count) own.run → IsTakenBelow count outcome

-- the outcome of a package's active case is known
abbrev pub IsToldIn : List NodeRecord → Valuation → KeptPackage → List (Option Outcome) → Type 0
IsToldIn nodes v kept told = (place : ℕ) → IsPlaceIn nodes v kept place → get_or told place None ≡ None → ⊥

-- the candidates of packages, each with the known outcomes
abbrev pub owns_of : List (List (ℕ × Candidate)) → List (List (Option Outcome)) → List OwnRecord
owns_of [] all = []
owns_of (run ∷ runs) [] = []
owns_of (run ∷ runs) (told ∷ all) = record { run = run; told = told } ∷ owns_of runs all

-- no outcome is known yet
abbrev pub AreUntold : RunsRecord → Type 0
AreUntold all = AllZip (λ run told. (place : ℕ) → get_or told place None ≡ None) all.runs all.told

abbrev pub AreTold : (Bor VersionRecord → Bool → Bool → Type 0) → List KeptPackage → RunsRecord → Type 0
AreTold returns table all = AllZip (IsTold returns) table (owns_of all.runs all.told)
