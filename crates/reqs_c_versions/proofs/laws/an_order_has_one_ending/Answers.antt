use Rattle.reqs_c_versions.proofs.OneVersion.{one_order_ending}
use Rattle.reqs_c_versions.proofs.laws.an_order_has_one_ending.Goals as goal

pub returns : goal.returns
returns c = one_order_ending
