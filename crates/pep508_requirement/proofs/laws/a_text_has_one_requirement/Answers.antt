use Rattle.pep508_requirement.proofs.Requirements.{one_requirement}
use Rattle.pep508_requirement.proofs.laws.a_text_has_one_requirement.Goals as goal

pub returns : goal.returns
returns c = one_requirement c.a_written_front_is_read.ensures c.a_written_marker_is_read.ensures
