use Rattle.std.proofs.Common.{◌≡◌, map, take, string_bytes}
use Rattle.reqtable_conflicts.specs.Contradictions.{conflict_record}
use Rattle.reqs_lists.specs.Contradictions.{conflicts_text}
use Rattle.reqs_lists.proofs.conflict_lines.conflicts_text.Given as goal

abbrev pub invariant-loop-conflict : goal.invariant-loop-conflict
invariant-loop-conflict l =
    string_bytes l.text ≡ conflicts_text (map conflict_record (take l.conflict-index l.conflicts))
