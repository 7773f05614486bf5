use Rattle.reqtable_table.proofs.Told.{told_at_first}
use Rattle.reqtable_table_laws.proofs.Telling.{told_later}
use Rattle.reqtable_table_laws.proofs.what_is_told_lasts.Goals as goal

pub returns-clause-first : goal.returns-clause-first
returns-clause-first g c = λ all table. told_at_first _ table all

pub returns-clause-later : goal.returns-clause-later
returns-clause-later g c = λ all table before. told_later _ table before all
