use Rattle.reqs_c_algebra.proofs.ReadAgain.{extras_again}
use Rattle.reqs_c_algebra.proofs.laws.a_marker_with_extras_reads_back.Goals as goal

pub returns : goal.returns
returns c = extras_again
