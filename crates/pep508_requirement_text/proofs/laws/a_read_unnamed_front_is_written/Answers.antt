use Rattle.pep508_requirement_text.proofs.UnnamedTexts.{unnamed_found}
use Rattle.pep508_requirement_text.proofs.laws.a_read_unnamed_front_is_written.Goals as goal

pub returns : goal.returns
returns c = unnamed_found
