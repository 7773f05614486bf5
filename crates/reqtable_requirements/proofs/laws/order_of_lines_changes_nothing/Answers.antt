use Rattle.reqtable_answer.proofs.Alike.{same_answer}
use Rattle.reqtable_requirements.specs.Asks.{asks_of}
use Rattle.reqtable_requirements.proofs.Others.{lines_alike}
use Rattle.reqtable_requirements.proofs.laws.order_of_lines_changes_nothing.Goals as goal

pub returns : goal.returns
returns c = λ v admits lines others candidates rows moved is.
    same_answer admits candidates (asks_of v lines) (asks_of v others) (lines_alike v lines others moved) rows is
