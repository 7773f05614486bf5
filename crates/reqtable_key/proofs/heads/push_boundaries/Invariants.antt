use Rattle.std.proofs.Common.{◌≡◌, ◌++◌, take, map}
use Rattle.std.specs.List.{flat_map}
use Rattle.version_ranges.specs.Boundaries.{point_of}
use Rattle.reqtable_key.specs.Heads.{point_bytes}
use Rattle.reqtable_key.proofs.Listed.{one_bytes}
use Rattle.reqtable_key.proofs.heads.push_boundaries.Given as goal

abbrev pub invariant-loop-boundary : goal.invariant-loop-boundary
invariant-loop-boundary l =
    l.bytes.items
    ≡ l.fn.bytes.items ++ flat_map (one_bytes point_bytes) (map point_of (take l.boundary-index l.boundaries))
