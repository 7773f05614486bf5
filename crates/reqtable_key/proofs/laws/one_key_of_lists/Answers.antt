use Rattle.reqtable_key.proofs.Law.{one_key_of_lists}
use Rattle.reqtable_key.proofs.laws.one_key_of_lists.Goals as goal

pub returns : goal.returns
returns c = one_key_of_lists
