use Rattle.reqtable_requirements.specs.Asks.{lines_of}
use Rattle.reqtable_table_laws.proofs.OneCase.{cases_again}
use Rattle.reqtable_table_laws.proofs.other_packages_change_no_case.Goals as goal

pub returns : goal.returns
returns c = λ nodes name said other cases alike. cases_again (lines_of name said) (lines_of name other) alike nodes cases
