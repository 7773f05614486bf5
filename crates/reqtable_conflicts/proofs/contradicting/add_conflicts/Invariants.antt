use Rattle.std.proofs.Common.{map, take}
use Rattle.reqtable_table.specs.Casing.{case_record}
use Rattle.reqtable_table.specs.Kept.{kept_under}
use Rattle.reqtable_conflicts.specs.Contradictions.{conflict_record}
use Rattle.reqtable_conflicts.specs.Picking.{AddsPicked}
use Rattle.reqtable_conflicts.proofs.contradicting.add_conflicts.Given as goal

abbrev pub invariant-loop-case : goal.invariant-loop-case
invariant-loop-case l =
    AddsPicked (kept_under l.name l.table) l.name (map case_record (take l.case-index l.cases)) (map conflict_record l.fn.found.items)
    (map conflict_record l.found.items)
