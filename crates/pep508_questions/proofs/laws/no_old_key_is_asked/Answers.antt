use Rattle.pep508_questions.proofs.Unasked.{modern}
use Rattle.pep508_questions.proofs.laws.no_old_key_is_asked.Goals as goal

pub returns : goal.returns
returns c = modern
