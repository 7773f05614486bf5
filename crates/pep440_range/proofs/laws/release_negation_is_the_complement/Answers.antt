use Rattle.pep440_range.proofs.Complements.{release_rest}
use Rattle.pep440_range.proofs.laws.release_negation_is_the_complement.Goals as goal

pub returns : goal.returns
returns c = release_rest
