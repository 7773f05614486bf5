use Rattle.std.proofs.Common.{◌≡◌, ◌++◌, map, take, drop}
use Rattle.pep508_disjointness.specs.Pairs.{turned_pair}
use Rattle.pep508_disjointness.proofs.child_pairs.turn_pairs.Given as goal

abbrev pub invariant-loop-pair : goal.invariant-loop-pair
invariant-loop-pair l =
    l.pairs ≡ map (turned_pair l.first l.second) (take l.pair-index l.initial.pairs)
    ++ drop l.pair-index l.initial.pairs
