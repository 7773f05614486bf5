use Rattle.std.proofs.Common.{◌≡◌, ◌++◌, take, map}
use Rattle.std.specs.List.{flat_map}
use Rattle.pep440_text.specs.Record.{segment_of}
use Rattle.pep440_version.specs.Order.{local_key}
use Rattle.pep440_key.specs.Key.{component_bytes}
use Rattle.pep440_key.proofs.components.push_local.Given as goal

abbrev pub invariant-loop-segment : goal.invariant-loop-segment
invariant-loop-segment l =
    l.key.items ≡ l.fn.key.items ++ flat_map component_bytes (local_key (map segment_of (take l.segment-index l.segments)))
