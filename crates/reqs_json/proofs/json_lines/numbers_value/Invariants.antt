use Rattle.std.proofs.Common.{◌≡◌, map, take}
use Rattle.serde_json.specs.View.{view}
use Rattle.reqs_json.specs.Lines.{number_of}
use Rattle.reqs_json.proofs.json_lines.numbers_value.Given as goal

abbrev pub invariant-loop-number : goal.invariant-loop-number
invariant-loop-number l = map view l.values.items ≡ map number_of (take l.number-index l.numbers)
