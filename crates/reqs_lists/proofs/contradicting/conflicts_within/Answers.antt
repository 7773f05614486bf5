use Rattle.reqs_lists.proofs.Strict.{conflicts_not_strict}
use Rattle.reqs_lists.proofs.contradicting.conflicts_within.Goals as goal

pub returns-clause-runs : goal.returns-clause-runs
returns-clause-runs g c =
    conflicts_not_strict _ _ _ _ c.args.vars.now c.args.format c.args.bounds c.conflicts_by.new.interner.nodes c.args.limit
    c.conflicts_by.result c.conflicts_by.ensures.runs
