use Rattle.pep508_requirement_text.proofs.Found.{front_found}
use Rattle.pep508_requirement_text.proofs.laws.a_read_front_is_written.Goals as goal

pub returns : goal.returns
returns c = λ text front rest. front_found c.specifier_text_is_read.ensures text (front, rest)
