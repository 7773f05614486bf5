use Rattle.reqtable_requirements.proofs.Grammar.{one_line}
use Rattle.reqtable_requirements.proofs.laws.text_is_one_requirement_line.Goals as goal

pub returns : goal.returns
returns c = one_line c.a_written_front_is_read.ensures c.a_written_marker_is_read.ensures
