use Rattle.std.proofs.Common.{◌≡◌, ◌||◌, ◌&&◌, ℕ, take}
use Rattle.pep508_cases.specs.Pairs.{is_listed, has_place}
use Rattle.pep508_cases.proofs.meeting.add_pairs.Given as goal

abbrev pub invariant-loop-one : goal.invariant-loop-one
invariant-loop-one l =
    (pair : ℕ × ℕ) → is_listed l.found.keys pair
    ≡ (is_listed l.fn.found.keys pair || (has_place (take l.one-index l.places) pair.0 && has_place l.others pair.1))
