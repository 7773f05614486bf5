use Rattle.std.proofs.Common.{◌≡◌, length, map}
use Rattle.pep440_text.specs.Record.{segment_of}
use Rattle.pep440_version.specs.Order.{local_key, key_cmp}
use Rattle.pep440_version.proofs.ordering.compare_local.Given as goal

abbrev pub invariant-loop-x : goal.invariant-loop-x
invariant-loop-x l =
    key_cmp (local_key (map segment_of l.left)) (local_key (map segment_of l.right))
    ≡ key_cmp (local_key (map segment_of l.a)) (local_key (map segment_of l.b))

abbrev pub decreases-loop-x : goal.decreases-loop-x
decreases-loop-x l = length l.left
