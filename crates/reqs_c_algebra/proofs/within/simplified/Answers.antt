use Rattle.reqs_c_algebra.proofs.Simplifying.{ends_between}
use Rattle.reqs_c_algebra.proofs.within.simplified.Goals as goal

pub returns-in-Ok-read_bound-2 : goal.returns-in-Ok-read_bound-2
returns-in-Ok-read_bound-2 c =
    ends_between c.args.bounds c.args.bytes.now c.args.lower.now c.args.upper.now c.in-Ok-read_bound.least
    c.in-Ok-read_bound-2.end c.in-Ok-read_bound.ensures.version c.in-Ok-read_bound-2.ensures.version _
    (c.text_between.ensures c.args.bytes.now c.in-Ok.ensures.tree)
