use Rattle.reqtable_table_laws.proofs.CasesOfLines.{cases_of_lines, none_of_lines}
use Rattle.reqtable_table_laws.proofs.cases_are_those_of_the_lines.Goals as goal

pub returns-clause-some : goal.returns-clause-some
returns-clause-some c = cases_of_lines

pub returns-clause-none : goal.returns-clause-none
returns-clause-none c = none_of_lines
