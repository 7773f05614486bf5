use Rattle.pep508_comparison.proofs.Rests.{python_rest}
use Rattle.pep508_comparison.proofs.laws.python_negation_is_the_rest.Goals as goal

pub returns : goal.returns
returns c = python_rest
