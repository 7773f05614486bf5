use Rattle.pep508_reading_back.proofs.Requirements.{requirement_read}
use Rattle.pep508_reading_back.proofs.laws.a_printed_requirement_means_its_diagram.Goals as goal

pub returns : goal.returns
returns c = requirement_read
