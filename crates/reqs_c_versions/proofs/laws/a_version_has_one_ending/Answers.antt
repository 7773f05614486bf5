use Rattle.reqs_c_versions.proofs.OneVersion.{one_version_ending}
use Rattle.reqs_c_versions.proofs.laws.a_version_has_one_ending.Goals as goal

pub returns : goal.returns
returns c = one_version_ending
