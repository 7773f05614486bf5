use Rattle.reqtable_answer.proofs.Alike.{same_answer, moved_alike}
use Rattle.reqtable_answer.proofs.laws.order_of_asks_changes_nothing.Goals as goal

pub returns : goal.returns
returns c = λ admits asks others candidates rows moved is.
    same_answer admits candidates asks others (moved_alike asks others moved) rows is
