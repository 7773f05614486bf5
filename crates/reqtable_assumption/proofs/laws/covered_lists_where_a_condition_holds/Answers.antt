use Rattle.reqtable_assumption.proofs.Asked.{covers_to, covers_from}
use Rattle.reqtable_assumption.proofs.laws.covered_lists_where_a_condition_holds.Goals as goal

pub returns : goal.returns
returns c = λ formula lock lines. (covers_to formula lock lines, covers_from formula lock lines)
