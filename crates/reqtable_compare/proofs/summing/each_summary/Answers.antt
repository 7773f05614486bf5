use Rattle.reqtable_table.specs.Casing.{case_record}
use Rattle.reqtable_table.specs.Kept.{kept_under}
use Rattle.reqtable_compare.specs.Seen.{summary_record}
use Rattle.reqtable_compare.specs.Totals.{IsSummed}
use Rattle.reqtable_compare.proofs.Steps.{zip_next}
use Rattle.reqtable_compare.proofs.summing.each_summary.Goals as goal

pub loop-case-preserved : goal.loop-case-preserved
loop-case-preserved c =
    rw c.in_ok-push.ensures.items
    (zip_next summary_record case_record (IsSummed c.args.lines.now (kept_under c.args.name.now c.args.table.now)) c.loop-case.found.items c.args.cases.now
    c.loop-case.case-index c.in_ok-summary.field-0 c.case-item.result c.loop-case-test.true c.case-item.is
    c.loop-case.invariant c.in_ok-summary.ensures)
