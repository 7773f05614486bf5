use Rattle.reqs_answers.proofs.Strict.{check_not_strict}
use Rattle.reqs_answers.proofs.checks.check.Goals as goal

pub returns-clause-runs : goal.returns-clause-runs
returns-clause-runs g c =
    check_not_strict _ _ _ _ c.args.vars.now _ c.args.format c.check_by.result c.check_by.ensures.runs
