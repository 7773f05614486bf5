use Rattle.pep508_requirement_text.proofs.UnnamedParts.{one_reading}
use Rattle.pep508_requirement_text.proofs.laws.a_text_has_one_unnamed_front.Goals as goal

pub returns : goal.returns
returns c = one_reading
