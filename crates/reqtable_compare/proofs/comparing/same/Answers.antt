use Rattle.reqtable_compare.proofs.Bounded.{same_compares}
use Rattle.reqtable_compare.proofs.comparing.same.Goals as goal

pub returns-clause-compared : goal.returns-clause-compared
returns-clause-compared c vars said others h h' =
    same_compares c.args.limit c.related.new.interner.nodes said others c.related.result
    (c.related.ensures.related vars said others h h')
