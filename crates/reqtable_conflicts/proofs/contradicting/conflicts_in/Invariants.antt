use Rattle.std.proofs.Common.{map, take}
use Rattle.reqtable_conflicts.specs.Contradictions.{conflict_record}
use Rattle.reqtable_conflicts.specs.Picking.{FoundFor}
use Rattle.reqtable_conflicts.proofs.contradicting.conflicts_in.Given as goal

abbrev pub invariant-loop-name : goal.invariant-loop-name
invariant-loop-name l =
    FoundFor l.table (map (λ name. name.now) (take l.name-index l.names)) (map conflict_record l.found.items)
