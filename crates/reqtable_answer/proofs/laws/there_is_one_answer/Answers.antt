use Rattle.reqtable_answer.proofs.OneAnswer.{one_answer}
use Rattle.reqtable_answer.proofs.laws.there_is_one_answer.Goals as goal

pub returns : goal.returns
returns c = one_answer
