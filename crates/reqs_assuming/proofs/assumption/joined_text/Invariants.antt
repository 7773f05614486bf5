use Rattle.std.proofs.Common.{◌≡◌, ◌++◌, map, take, string_bytes}
use Rattle.std.specs.List.{flat_map}
use Rattle.reqs_assuming.specs.Assumptions.{and_text, in_parentheses}
use Rattle.reqs_assuming.proofs.assumption.joined_text.Given as goal

abbrev pub invariant-loop-other : goal.invariant-loop-other
invariant-loop-other l =
    string_bytes l.text
    ≡ in_parentheses (string_bytes l.first) ++ flat_map and_text (map string_bytes (take l.other-index l.others))
