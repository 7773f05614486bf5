use Rattle.reqtable_table.proofs.RowsOfLines.{rows_are_the_answer}
use Rattle.reqtable_table_laws.proofs.rows_for_packages_are_the_answer.Goals as goal

pub returns : goal.returns
returns c = rows_are_the_answer
