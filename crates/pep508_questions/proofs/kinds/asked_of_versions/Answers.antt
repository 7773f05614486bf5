use Rattle.pep508_questions.proofs.Boundaries.{versions_asked}
use Rattle.pep508_questions.proofs.kinds.asked_of_versions.Goals as goal

pub returns : goal.returns
returns c key = versions_asked key c.args.later.now c.have_other.result c.have_other.ensures
