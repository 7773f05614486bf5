use Rattle.reqtable_range.proofs.Fewer.{one_implies}
use Rattle.reqtable_range.proofs.ends.is_implied.Goals as goal

pub returns-then-implies : goal.returns-then-implies
returns-then-implies c = λ told.
    one_implies c.args.ends.now c.loop-end.end-index c.end-item.result c.args.member.now c.loop-end-test.true
    c.end-item.is (c.implies.ensures c.if-implies.true)
