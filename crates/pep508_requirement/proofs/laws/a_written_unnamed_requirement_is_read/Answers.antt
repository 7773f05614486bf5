use Rattle.pep508_requirement.proofs.UnnamedRequirements.{are_read}
use Rattle.pep508_requirement.proofs.laws.a_written_unnamed_requirement_is_read.Goals as goal

pub returns : goal.returns
returns c = λ text front marker h.
    let read =
    are_read c.a_written_unnamed_front_is_read.ensures c.a_written_marker_is_read.ensures text front marker h in
    (read.rest, read.reading, read.is_marker)
