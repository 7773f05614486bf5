use Rattle.reqtable_normal.proofs.Alike.{one_text}
use Rattle.reqtable_normal.proofs.laws.there_is_one_normal_text.Goals as goal

pub returns : goal.returns
returns c = one_text
