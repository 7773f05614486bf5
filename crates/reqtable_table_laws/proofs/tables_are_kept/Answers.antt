use Rattle.reqtable_table.proofs.Lasting.{cases_later, lines_later}
use Rattle.reqtable_table_laws.proofs.tables_are_kept.Goals as goal

pub returns-clause-cases : goal.returns-clause-cases
returns-clause-cases c = λ old new table more. cases_later old new more table

pub returns-clause-lines : goal.returns-clause-lines
returns-clause-lines c = λ old new table said more. lines_later old new more table said
