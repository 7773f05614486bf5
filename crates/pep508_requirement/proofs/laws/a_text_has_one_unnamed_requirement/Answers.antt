use Rattle.pep508_requirement.proofs.UnnamedRequirements.{one_requirement}
use Rattle.pep508_requirement.proofs.laws.a_text_has_one_unnamed_requirement.Goals as goal

pub returns : goal.returns
returns c =
    one_requirement c.a_text_has_one_unnamed_front.ensures c.a_written_unnamed_front_is_read.ensures
    c.a_written_marker_is_read.ensures
