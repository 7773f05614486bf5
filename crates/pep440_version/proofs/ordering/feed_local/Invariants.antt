use Rattle.std.proofs.Common.{◌≡◌, take, fold, map}
use Rattle.pep440_text.specs.Record.{segment_of}
use Rattle.pep440_version.specs.Order.{local_key, fed_key}
use Rattle.pep440_version.proofs.ordering.feed_local.Given as goal

abbrev pub invariant-loop-segment : goal.invariant-loop-segment
invariant-loop-segment g l =
    l.state ≡ fold g.H.Hasher.write l.fn.state (fed_key (local_key (map segment_of (take l.segment-index l.segments))))
