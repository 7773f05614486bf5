use Rattle.pep508_requirement_text.proofs.Again.{no_requirement}
use Rattle.pep508_requirement_text.proofs.laws.a_refused_text_is_none.Goals as goal

pub returns : goal.returns
returns c = no_requirement c.a_written_front_is_read.ensures
