use Rattle.pep440_operator.proofs.Operators.{operator_found, operator_again}
use Rattle.pep440_operator.proofs.laws.operator_text_is_read.Goals as goal

pub returns : goal.returns
returns c = λ text operator. (operator_found text operator, operator_again text operator)
