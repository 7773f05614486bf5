use Rattle.reqtable_assumption.proofs.Asked.{same_to, same_from}
use Rattle.reqtable_assumption.proofs.laws.same_lists_where_a_condition_holds.Goals as goal

pub returns : goal.returns
returns c = λ formula left right. (same_to formula left right, same_from formula left right)
