use Rattle.reqtable_answer.proofs.Alike.{row_by_its_asks}
use Rattle.reqtable_requirements.specs.Asks.{asks_of}
use Rattle.reqtable_requirements.proofs.Others.{same_asks}
use Rattle.reqtable_requirements.proofs.laws.lines_of_other_packages_change_no_row.Goals as goal

pub returns : goal.returns
returns c = λ v admits lines others candidates row same is.
    row_by_its_asks admits candidates (asks_of v lines) (asks_of v others) row (same_asks v row.name lines others same) is
