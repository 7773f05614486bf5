use Rattle.reqtable_normal.proofs.Alike.{alike_texts}
use Rattle.reqtable_normal.proofs.laws.what_says_the_same_has_one_normal_text.Goals as goal

pub returns : goal.returns
returns c = alike_texts
