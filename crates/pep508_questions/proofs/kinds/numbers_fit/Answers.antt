use Rattle.pep508_questions.proofs.Boundaries.{numbers_small}
use Rattle.pep508_questions.proofs.kinds.numbers_fit.Goals as goal

pub returns : goal.returns
returns c = numbers_small c.args.numbers.now (λ k. (c.type_inv.numbers k).fits)
