use Rattle.reqs_c_algebra.proofs.ReadAgain.{negation_again}
use Rattle.reqs_c_algebra.proofs.laws.a_negation_reads_back.Goals as goal

pub returns : goal.returns
returns c = negation_again
