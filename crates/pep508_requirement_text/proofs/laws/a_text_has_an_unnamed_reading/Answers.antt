use Rattle.pep508_requirement_text.proofs.UnnamedReadings.{has_reading}
use Rattle.pep508_requirement_text.proofs.laws.a_text_has_an_unnamed_reading.Goals as goal

pub returns : goal.returns
returns c = has_reading
