use Rattle.std.proofs.Common.{◌≡◌, map, take}
use Rattle.serde_json.specs.View.{view}
use Rattle.reqtable_answer.specs.Rows.{row_seen}
use Rattle.reqs_json.specs.Rows.{package_value}
use Rattle.reqs_json.proofs.answers.packages_value.Given as goal

abbrev pub invariant-loop-row : goal.invariant-loop-row
invariant-loop-row l =
    map view l.values.items ≡ map (package_value l.candidates) (map row_seen (take l.row-index l.rows))
