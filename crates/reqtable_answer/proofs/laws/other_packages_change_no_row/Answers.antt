use Rattle.reqtable_answer.proofs.Alike.{row_by_its_asks}
use Rattle.reqtable_answer.proofs.laws.other_packages_change_no_row.Goals as goal

pub returns : goal.returns
returns c = λ admits asks others candidates row same is.
    row_by_its_asks admits candidates asks others row same is
