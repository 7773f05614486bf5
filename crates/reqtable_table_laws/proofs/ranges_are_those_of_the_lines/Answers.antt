use Rattle.reqtable_table_laws.proofs.CasesOfLines.{range_of_case}
use Rattle.reqtable_table_laws.proofs.ranges_are_those_of_the_lines.Goals as goal

pub returns : goal.returns
returns c = range_of_case
