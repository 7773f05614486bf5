use Rattle.std.proofs.Common.{arith}
use Rattle.reqs_answers.proofs.matrices.table_of.Goals as goal

pub returns-in-Ok : goal.returns-in-Ok
returns-in-Ok c = λ vars said stands. (c.in-Ok.ensures.built vars said stands, omega arith)
