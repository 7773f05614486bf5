use Rattle.std.proofs.Common.{◌≡◌, fold}
use Rattle.std.specs.List.{flat_map}
use Rattle.version_ranges.specs.Bounds.{intervals}
use Rattle.version_ranges.specs.Hashing.{interval_input}
use Rattle.version_ranges.proofs.order.RangesHash.hash.Given as goal

abbrev pub invariant-loop-lower : goal.invariant-loop-lower
invariant-loop-lower g l =
    fold g.H.Hasher.write l.state (flat_map (interval_input g.T.Hash.hash_input) l.lower-iterator)
    ≡ fold g.H.Hasher.write l.fn.state (flat_map (interval_input g.T.Hash.hash_input) (intervals l.self))
