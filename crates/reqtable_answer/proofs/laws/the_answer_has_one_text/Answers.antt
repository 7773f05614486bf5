use Rattle.reqtable_answer.proofs.OneAnswer.{one_text}
use Rattle.reqtable_answer.proofs.laws.the_answer_has_one_text.Goals as goal

pub returns : goal.returns
returns c = one_text
