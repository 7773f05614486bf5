-- The object of an answer.
use Rattle.std.proofs.Common.{◌≡◌, ◌∙◌, ℕ, List, ap}
use Rattle.pep508_requirement_text.specs.FrontReading.{Front}
use Rattle.reqtable_candidates.specs.declared.candidates.Candidate.{Candidate}
use Rattle.reqtable_answer.specs.Answer.{Admits, RowRecord, IsAnswer}
use Rattle.reqtable_answer.proofs.OneAnswer.{one_answer}
use Rattle.reqs_json.specs.declared.format.Format.TheVariants.{Json}
use Rattle.reqs_json.specs.Lines.{line_of}
use Rattle.reqs_json.specs.Rows.{answer_value, IsAnswerIn}

-- it has the rows that are the answer
pub object_is : (admits : Admits) (asks : List Front) (candidates : List Candidate) (rows : List RowRecord) (object : List ℕ)
    → IsAnswer admits asks candidates rows → IsAnswerIn Json admits asks candidates object
    → object ≡ line_of (answer_value candidates rows)
object_is admits asks candidates rows object a b =
    b.2 ∙ ap (λ r. line_of (answer_value candidates r)) (one_answer admits asks candidates b.0 rows b.1 a)
