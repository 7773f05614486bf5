use Rattle.reqtable_table.proofs.Counting.{lines_more}
use Rattle.reqtable_table.proofs.table.lines_tests.Goals as goal

pub loop-line-preserved : goal.loop-line-preserved
loop-line-preserved c =
    lines_more c.args.tests c.args.lines.now c.loop-line.line-index c.line-item.result c.loop-line.tests c.tests.result
    c.saturating_add-tests.result c.loop-line-test.true c.line-item.is c.loop-line.invariant c.tests.ensures c.saturating_add-tests.ensures
