use Rattle.reqs_c_algebra.proofs.KeyTexts.{one_meaning}
use Rattle.reqs_c_algebra.proofs.laws.keys_are_of_meanings.Goals as goal

pub returns : goal.returns
returns c = one_meaning c.one_key.ensures
