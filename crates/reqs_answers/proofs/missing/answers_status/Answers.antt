use Rattle.reqtable_table.proofs.Same.{all_same}
use Rattle.reqs_answers.proofs.missing.answers_status.Goals as goal

pub returns-then-strict-clause-status : goal.returns-then-strict-clause-status
returns-then-strict-clause-status g c = rw c.if-strict.true c.strict_status.ensures.status

pub returns-else-strict-clause-kept : goal.returns-else-strict-clause-kept
returns-else-strict-clause-kept g c = all_same c.args.run.now.table
