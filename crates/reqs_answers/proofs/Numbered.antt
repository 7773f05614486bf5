-- Answers for environments one after another.
use Rattle.std.proofs.Common.{◌≡◌, ◌∙◌, ◌++◌, ◌∷◌, [], ℕ, suc, List, ap}
use Rattle.std.specs.List.{AllZip}
use Rattle.pep508_environment.specs.Environment.{EnvironmentRecord}
use Rattle.pep508_evaluation.specs.Valuations.{valuation_of}
use Rattle.reqtable_candidates.specs.declared.candidates.Candidate.{Candidate}
use Rattle.reqtable_answer.specs.Answer.{IsAnswerText}
use Rattle.reqtable_answer.proofs.OneAnswer.{one_text}
use Rattle.reqtable_requirements.specs.Asks.{asks_of}
use Rattle.reqtable_requirements.specs.LineReading.{LineRecord}
use Rattle.reqs_answers.specs.Check.{on_request}
use Rattle.reqs_answers.specs.Matrix.{environment_line, IsMatrixText, numbered}

-- what is written is what one answer after another is
pub as_check : (extras : List (List ℕ)) (lines : List LineRecord) (candidates : List Candidate) (number : ℕ)
    (environments : List EnvironmentRecord) (answers : List (List ℕ)) (text : List ℕ)
    → AllZip (λ environment answer. IsAnswerText on_request (asks_of (valuation_of environment extras) lines) candidates answer) environments answers
    → IsMatrixText on_request extras lines candidates number environments text → text ≡ numbered number answers
as_check extras lines candidates number [] [] text each h = h
as_check extras lines candidates number [] (answer ∷ answers) text each h = absurd each
as_check extras lines candidates number (environment ∷ environments) [] text each h = absurd each
as_check extras lines candidates number (environment ∷ environments) (answer ∷ answers) text each h =
    let line = environment_line number in
    h.4 ∙ ap (λ a. line ++ a ++ h.1) (one_text on_request (asks_of (valuation_of environment extras) lines) candidates h.0 answer h.2 each.0)
    ∙ ap (λ rest. line ++ answer ++ rest) (as_check extras lines candidates (suc number) environments answers h.1 each.1 h.3)
