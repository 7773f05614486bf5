use Rattle.std.proofs.Common.{◌≡◌, drop}
use Rattle.pep508_disjointness.specs.Left.{with_pairs}
use Rattle.pep508_disjointness.proofs.disjointness.add_pairs.Given as goal

abbrev pub invariant-loop-pair : goal.invariant-loop-pair
invariant-loop-pair l =
    with_pairs l.left.keys (drop l.pair-index l.pairs) ≡ with_pairs l.initial.left.keys l.pairs
