use Rattle.std.proofs.Common.{◌≡◌, ◌<◌, length}
use Rattle.pep440_version.specs.Order.{stripped}
use Rattle.pep508_comparison.proofs.release_numbers.without_end_zeros.Given as goal

abbrev pub invariant-loop-last : goal.invariant-loop-last
invariant-loop-last l = (0 < length l.front) × (stripped l.front ≡ stripped l.numbers)

abbrev pub decreases-loop-last : goal.decreases-loop-last
decreases-loop-last l = length l.front
