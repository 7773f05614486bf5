use Rattle.reqs_answers.proofs.Numbered.{as_check}
use Rattle.reqs_answers.proofs.laws.matrix_writes_what_check_writes.Goals as goal

pub returns : goal.returns
returns c = λ extras lines candidates. as_check extras lines candidates 1
