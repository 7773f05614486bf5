-- The rows of an answer in both formats.
use Rattle.std.proofs.Common.{◌≡◌, ◌∷◌, [], ℕ, List, Ok, map, refl, sym, subst}
use Rattle.std.specs.List.{AllZip}
use Rattle.pep508_environment.specs.Environment.{EnvironmentRecord}
use Rattle.pep508_evaluation.specs.Valuations.{valuation_of}
use Rattle.reqtable_candidates.specs.declared.candidates.Candidate.{Candidate}
use Rattle.reqtable_answer.specs.Answer.{RowRecord, IsAnswer, IsAnswerText, answer_text}
use Rattle.reqtable_requirements.specs.Asks.{asks_of}
use Rattle.reqtable_requirements.specs.LineReading.{LineRecord}
use Rattle.reqs_json.specs.declared.format.Format.TheVariants.{Text, Json}
use Rattle.reqs_json.specs.Lines.{line_of}
use Rattle.reqs_json.specs.Rows.{answer_value, answers_value, IsAnswerIn}
use Rattle.reqs_json.proofs.OneObject.{object_is}
use Rattle.reqs_answers.specs.Check.{on_request, CheckTexts, IsCheckText}
use Rattle.reqs_answers.specs.Matrix.{AreAnswers, IsMatrixIn, numbered}
use Rattle.reqs_answers.specs.Texts.{ReadTexts}
use Rattle.reqs_answers.proofs.Numbered.{as_check}

pub same_rows : (texts : CheckTexts) (lines object : List ℕ) → IsCheckText Text texts lines → IsCheckText Json texts object
    → (read : ReadTexts EnvironmentRecord) × (rows : List RowRecord) × (texts ≡ Ok read)
    × IsAnswer on_request (asks_of (valuation_of read.second read.extras) read.lines) read.candidates rows
    × (lines ≡ answer_text read.candidates rows)
    × (object ≡ line_of (answer_value read.candidates rows))
same_rows texts lines object a b =
    let read : a.read ≡ b.read = cc (a.is_read, b.is_read) in
    let P : ReadTexts EnvironmentRecord → Type 0 =
    λ r. IsAnswerIn Json on_request (asks_of (valuation_of r.second r.extras) r.lines) r.candidates object in (
      a.read,
      a.is_text.0,
      a.is_read,
      a.is_text.1,
      a.is_text.2,
      object_is on_request (asks_of (valuation_of a.read.second a.read.extras) a.read.lines) a.read.candidates a.is_text.0 object a.is_text.1
          (subst P (sym read) b.is_text),
    )

module _ (extras : List (List ℕ)) (lines : List LineRecord) (candidates : List Candidate) where
  texts_of_rows : (environments : List EnvironmentRecord) (answers : List (List RowRecord))
      → AreAnswers on_request extras lines candidates environments answers
      → AllZip (λ environment answer. IsAnswerText on_request (asks_of (valuation_of environment extras) lines) candidates answer) environments
      (map (answer_text candidates) answers)
  texts_of_rows [] [] h = tt
  texts_of_rows [] (rows ∷ answers) h = absurd h
  texts_of_rows (environment ∷ environments) [] h = absurd h
  texts_of_rows (environment ∷ environments) (rows ∷ answers) h =
      ((rows, h.0, refl), texts_of_rows environments answers h.1)

  pub same_rows_of_all : (environments : List EnvironmentRecord) (text object : List ℕ)
      → IsMatrixIn Text on_request extras lines candidates environments text
      → IsMatrixIn Json on_request extras lines candidates environments object
      → (answers : List (List RowRecord)) × AreAnswers on_request extras lines candidates environments answers
      × (text ≡ numbered 1 (map (answer_text candidates) answers))
      × (object ≡ line_of (answers_value candidates answers))
  same_rows_of_all environments text object a b = (
    b.0,
    b.1,
    as_check extras lines candidates 1 environments (map (answer_text candidates) b.0) text (texts_of_rows environments b.0 b.1) a,
    b.2,
  )
