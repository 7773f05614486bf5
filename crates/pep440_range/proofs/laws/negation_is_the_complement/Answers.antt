use Rattle.pep440_range.proofs.Complements.{range_rest}
use Rattle.pep440_range.proofs.laws.negation_is_the_complement.Goals as goal

pub returns : goal.returns
returns c = range_rest
