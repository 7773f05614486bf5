use Rattle.pep508_requirement_text.proofs.Again.{one_front}
use Rattle.pep508_requirement_text.proofs.laws.a_text_has_one_front.Goals as goal

pub returns : goal.returns
returns c = one_front c.a_written_front_is_read.ensures
