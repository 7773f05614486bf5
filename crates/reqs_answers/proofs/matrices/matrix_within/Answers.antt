use Rattle.reqs_answers.proofs.Strict.{matrix_not_strict}
use Rattle.reqs_answers.proofs.matrices.matrix_within.Goals as goal

pub returns-clause-runs : goal.returns-clause-runs
returns-clause-runs g c =
    matrix_not_strict _ _ _ _ c.args.vars.now _ c.args.format c.args.bounds c.matrix_by.new.interner.nodes c.args.limit
    c.matrix_by.result c.matrix_by.ensures.runs
