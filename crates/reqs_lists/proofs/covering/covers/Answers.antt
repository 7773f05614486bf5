use Rattle.reqs_lists.proofs.ToldCovers.{covers_ok, covers_err}
use Rattle.reqs_lists.proofs.covering.covers.Goals as goal

pub returns-in-Ok-clause-runs : goal.returns-in-Ok-clause-runs
returns-in-Ok-clause-runs g c =
    covers_ok _ _ _ _ c.args.vars.now c.args.format c.none-none.result c.covers_within.new.interner.nodes c.args.limit c.in-Ok.status
    c.in-Ok.ensures.runs

pub returns-clause-runs : goal.returns-clause-runs
returns-clause-runs g c =
    rw c.unbounded.ensures
    (covers_err _ _ _ _ c.args.vars.now c.args.format c.none-none.result c.covers_within.new.interner.nodes c.args.limit c.in-Err.fault
    c.in-Err.ensures.runs)
