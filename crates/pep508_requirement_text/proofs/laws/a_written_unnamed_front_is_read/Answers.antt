use Rattle.pep508_requirement_text.proofs.UnnamedTexts.{unnamed_again}
use Rattle.pep508_requirement_text.proofs.laws.a_written_unnamed_front_is_read.Goals as goal

pub returns : goal.returns
returns c = unnamed_again
