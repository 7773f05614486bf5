use Rattle.pep508_requirement.proofs.UnnamedRequirements.{read_written}
use Rattle.pep508_requirement.proofs.laws.a_read_unnamed_requirement_is_written.Goals as goal

pub returns : goal.returns
returns g c = λ vars directory.
    read_written _ c.a_read_unnamed_front_is_written.ensures c.a_read_marker_is_written.ensures
