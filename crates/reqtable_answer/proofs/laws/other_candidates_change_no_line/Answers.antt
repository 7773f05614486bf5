use Rattle.reqtable_answer.proofs.Others.{same_line}
use Rattle.reqtable_answer.proofs.laws.other_candidates_change_no_line.Goals as goal

pub returns : goal.returns
returns c = same_line
