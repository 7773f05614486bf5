use Rattle.pep508_requirement_text.proofs.UnnamedTexts.{no_requirement}
use Rattle.pep508_requirement_text.proofs.laws.a_refused_text_is_no_unnamed_requirement.Goals as goal

pub returns : goal.returns
returns c = no_requirement c.a_written_unnamed_front_is_read.ensures
