use Rattle.reqs_answers.proofs.Whole.{matrix_ok, matrix_err}
use Rattle.reqs_answers.proofs.matrices.matrix.Goals as goal

pub returns-in-Ok-clause-runs : goal.returns-in-Ok-clause-runs
returns-in-Ok-clause-runs g c =
    matrix_ok _ _ _ _ c.args.vars.now _ c.args.format c.none-none.result c.matrix_within.new.interner.nodes c.args.limit
    c.in-Ok.status c.in-Ok.ensures.runs

pub returns-clause-runs : goal.returns-clause-runs
returns-clause-runs g c =
    rw c.unbounded.ensures
    (matrix_err _ _ _ _ c.args.vars.now _ c.args.format c.none-none.result c.matrix_within.new.interner.nodes c.args.limit
    c.in-Err.fault c.in-Err.ensures.runs)
