use Rattle.reqs_c_versions.proofs.OneRange.{one_emptiness}
use Rattle.reqs_c_versions.proofs.laws.emptiness_has_one_ending.Goals as goal

pub returns : goal.returns
returns c = one_emptiness
