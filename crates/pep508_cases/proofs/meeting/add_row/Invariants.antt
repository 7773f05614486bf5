use Rattle.std.proofs.Common.{◌≡◌, ◌==◌, ◌||◌, ◌&&◌, ℕ, take}
use Rattle.pep508_cases.specs.Pairs.{is_listed, has_place}
use Rattle.pep508_cases.proofs.meeting.add_row.Given as goal

abbrev pub invariant-loop-other : goal.invariant-loop-other
invariant-loop-other l =
    (pair : ℕ × ℕ) → is_listed l.found.keys pair
    ≡ (is_listed l.fn.found.keys pair || ((l.one == pair.0) && has_place (take l.other-index l.others) pair.1))
