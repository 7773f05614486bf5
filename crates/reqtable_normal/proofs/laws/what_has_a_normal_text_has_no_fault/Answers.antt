use Rattle.reqtable_normal.proofs.Alike.{no_fault}
use Rattle.reqtable_normal.proofs.laws.what_has_a_normal_text_has_no_fault.Goals as goal

pub returns : goal.returns
returns c = no_fault
