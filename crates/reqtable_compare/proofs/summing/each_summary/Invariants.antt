use Rattle.std.proofs.Common.{map, take}
use Rattle.std.specs.List.{AllZip}
use Rattle.reqtable_table.specs.Casing.{case_record}
use Rattle.reqtable_table.specs.Kept.{kept_under}
use Rattle.reqtable_compare.specs.Seen.{summary_record}
use Rattle.reqtable_compare.specs.Totals.{IsSummed}
use Rattle.reqtable_compare.proofs.summing.each_summary.Given as goal

abbrev pub invariant-loop-case : goal.invariant-loop-case
invariant-loop-case l =
    AllZip (IsSummed l.lines (kept_under l.name l.table)) (map summary_record l.found.items)
    (map case_record (take l.case-index l.cases))
