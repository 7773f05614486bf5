use Rattle.pep508_questions.proofs.Unasked.{plain}
use Rattle.pep508_questions.proofs.laws.nothing_is_asked_of_a_plain_diagram.Goals as goal

pub returns : goal.returns
returns c = plain
