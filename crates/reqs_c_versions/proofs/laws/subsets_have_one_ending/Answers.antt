use Rattle.reqs_c_versions.proofs.OneRange.{one_subset}
use Rattle.reqs_c_versions.proofs.laws.subsets_have_one_ending.Goals as goal

pub returns : goal.returns
returns c = one_subset
