use Rattle.reqtable_table_laws.proofs.OneCase.{one_case}
use Rattle.reqtable_table_laws.proofs.a_valuation_lies_in_one_case.Goals as goal

pub returns : goal.returns
returns c = λ nodes lines cases v. one_case nodes lines v cases
