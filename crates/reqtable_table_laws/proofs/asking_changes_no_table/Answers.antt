use Rattle.reqtable_table.proofs.Same.{has_cases, keeps, runs_on}
use Rattle.reqtable_table_laws.proofs.asking_changes_no_table.Goals as goal

pub returns-clause-cases : goal.returns-clause-cases
returns-clause-cases c = has_cases

pub returns-clause-lines : goal.returns-clause-lines
returns-clause-lines c = keeps

pub returns-clause-runs : goal.returns-clause-runs
returns-clause-runs c = runs_on
