use Rattle.std.proofs.Common.{◌≡◌, ℕ, take}
use Rattle.std.specs.List.{list_any}
use Rattle.pep508_cases.specs.Pairs.{is_listed, is_of_leaves}
use Rattle.pep508_cases.proofs.meeting.pairs_of.Given as goal

abbrev pub invariant-loop-both : goal.invariant-loop-both
invariant-loop-both l =
    (pair : ℕ × ℕ) → is_listed l.found.keys pair
    ≡ list_any (is_of_leaves l.first.sets.items l.second.sets.items pair) (take l.both-index l.leaves)
