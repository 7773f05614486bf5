use Rattle.reqtable_answer.proofs.OneRange.{told}
use Rattle.reqtable_answer.proofs.asking.all_take.Goals as goal

pub returns-in-Some-2 : goal.returns-in-Some-2
returns-in-Some-2 c =
    told c.args.asks.now c.args.range.now c.in-Some.range c.args.version.now _ c.in-Some-2.taken c.in-Some.is c.in-Some-2.is c.requires
    c.in_ok-taken.ensures.taken
