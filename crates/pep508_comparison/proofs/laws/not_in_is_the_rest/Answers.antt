use Rattle.pep508_comparison.proofs.Rests.{not_in_rest}
use Rattle.pep508_comparison.proofs.laws.not_in_is_the_rest.Goals as goal

pub returns : goal.returns
returns c = not_in_rest
