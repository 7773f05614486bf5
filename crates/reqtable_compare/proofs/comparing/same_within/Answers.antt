use Rattle.reqtable_compare.proofs.Bounded.{same_compares_within}
use Rattle.reqtable_compare.proofs.comparing.same_within.Goals as goal

pub returns-clause-compared : goal.returns-clause-compared
returns-clause-compared c vars said others h h' =
    same_compares_within c.args.limit c.related.new.interner.nodes said others c.args.in_all c.related.result
    (c.related.ensures.related vars said others h h')
