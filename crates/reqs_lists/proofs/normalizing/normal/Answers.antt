use Rattle.reqs_lists.proofs.Told.{normal_ok, normal_err}
use Rattle.reqs_lists.proofs.normalizing.normal.Goals as goal

pub returns-in-Ok-clause-runs : goal.returns-in-Ok-clause-runs
returns-in-Ok-clause-runs g c =
    normal_ok _ _ _ _ c.args.vars.now c.args.format c.none-none.result c.normal_within.new.interner.nodes c.in-Ok.status
    c.in-Ok.ensures.runs

pub returns-clause-runs : goal.returns-clause-runs
returns-clause-runs g c =
    rw c.unbounded.ensures
    (normal_err _ _ _ _ c.args.vars.now c.args.format c.none-none.result c.normal_within.new.interner.nodes c.in-Err.fault
    c.in-Err.ensures.runs)
