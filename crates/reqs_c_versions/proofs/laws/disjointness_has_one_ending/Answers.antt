use Rattle.reqs_c_versions.proofs.OneRange.{one_disjointness}
use Rattle.reqs_c_versions.proofs.laws.disjointness_has_one_ending.Goals as goal

pub returns : goal.returns
returns c = one_disjointness
