use Rattle.pep508_requirement.proofs.UnnamedRequirements.{not_refused}
use Rattle.pep508_requirement.proofs.laws.a_written_unnamed_requirement_is_not_refused.Goals as goal

pub returns : goal.returns
returns g c = λ vars directory.
    not_refused _ c.a_text_has_one_unnamed_front.ensures c.a_written_unnamed_front_is_read.ensures
    c.a_written_marker_is_read.ensures _
