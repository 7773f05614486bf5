use Rattle.std.proofs.Common.{◌≡◌, map, take}
use Rattle.serde_json.specs.View.{view}
use Rattle.reqtable_conflicts.specs.Contradictions.{conflict_record}
use Rattle.reqs_lists.specs.Contradictions.{conflict_value}
use Rattle.reqs_lists.proofs.conflict_lines.conflict_values.Given as goal

abbrev pub invariant-loop-conflict : goal.invariant-loop-conflict
invariant-loop-conflict l =
    map view l.values.items ≡ map conflict_value (map conflict_record (take l.conflict-index l.conflicts))
