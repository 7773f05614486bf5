-- Rows whose candidates stand in a list of selected ones have the text of the answer.
use Rattle.std.proofs.Common.{◌≡◌, List, [], ◌∷◌, ◌++◌, refl, ap, subst, codes}
use Rattle.std.specs.List.{AllZip}
use Rattle.std.specs.Option.{option_map_or}
use Rattle.pep440_version.specs.Print.{version_text}
use Rattle.pep508_requirement_text.specs.FrontReading.{Front}
use Rattle.reqtable_candidates.specs.declared.candidates.Candidate.{Candidate}
use Rattle.reqtable_answer.specs.declared.answer.Outcome.{Outcome}
use Rattle.reqtable_answer.specs.declared.answer.Outcome.TheVariants.{Taken, Nothing, Direct}
use Rattle.reqtable_answer.specs.Answer.{Admits, RowRecord, IsAnswer, outcome_text, extras_text, row_text, answer_text}
use Rattle.reqtable_answer.proofs.OneAnswer.{one_answer}
use Rattle.reqtable_streaming.specs.Selection.{SelectsAs, IsRowAs, IsSelection}

module _ (selected candidates : List Candidate) where
  outcome_as : (a b : Outcome) → SelectsAs selected candidates a b → outcome_text selected a ≡ outcome_text candidates b
  outcome_as (Taken place) (Taken other) h = ap (λ c. option_map_or (λ x. version_text x.version) c []) h.1
  outcome_as (Taken place) Nothing h = absurd h
  outcome_as (Taken place) Direct h = absurd h
  outcome_as Nothing (Taken other) h = absurd h
  outcome_as Nothing Nothing h = refl
  outcome_as Nothing Direct h = absurd h
  outcome_as Direct (Taken other) h = absurd h
  outcome_as Direct Nothing h = absurd h
  outcome_as Direct Direct h = refl

  row_as : (row other : RowRecord) → IsRowAs selected candidates row other → row_text selected row ≡ row_text candidates other
  row_as row other h =
      let shown = outcome_as row.outcome other.outcome h.outcome in
      λ i. h.name i ++ (extras_text (h.extras i) ++ (codes " " ++ (shown i ++ codes "\n")))

  pub text_as : (rows answer : List RowRecord) → AllZip (IsRowAs selected candidates) rows answer
      → answer_text selected rows ≡ answer_text candidates answer
  text_as [] [] h = refl
  text_as [] (a ∷ answer) h = absurd h
  text_as (r ∷ rows) [] h = absurd h
  text_as (r ∷ rows) (a ∷ answer) h =
      let first = row_as r a h.0 in
      let rest = text_as rows answer h.1 in
      λ i. first i ++ rest i

pub one_road : (admits : Admits) (asks : List Front) (candidates selected : List Candidate) (rows answer : List RowRecord)
    → IsSelection admits asks candidates selected rows → IsAnswer admits asks candidates answer
    → AllZip (IsRowAs selected candidates) rows answer
one_road admits asks candidates selected rows answer is h =
    subst (AllZip (IsRowAs selected candidates) rows) (one_answer admits asks candidates is.answer answer is.is_answer h) is.are_its_rows
