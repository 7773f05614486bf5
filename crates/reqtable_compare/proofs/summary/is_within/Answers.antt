use Rattle.reqtable_compare.proofs.Within.{within_is}
use Rattle.reqtable_compare.proofs.summary.is_within.Goals as goal

pub returns : goal.returns
returns c =
    within_is c.eq.result c.in_ok-both.both c.args.ours.now c.args.theirs.now c.in_ok-both.ensures c.eq.ensures.points
