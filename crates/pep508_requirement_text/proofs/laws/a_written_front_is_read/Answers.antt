use Rattle.pep508_requirement_text.proofs.Again.{front_again}
use Rattle.pep508_requirement_text.proofs.laws.a_written_front_is_read.Goals as goal

pub returns : goal.returns
returns c = λ text front rest. front_again c.specifier_text_is_read.ensures text rest front
