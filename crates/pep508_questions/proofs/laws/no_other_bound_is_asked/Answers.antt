use Rattle.pep508_questions.proofs.Unasked.{releases}
use Rattle.pep508_questions.proofs.laws.no_other_bound_is_asked.Goals as goal

pub returns : goal.returns
returns c = releases
