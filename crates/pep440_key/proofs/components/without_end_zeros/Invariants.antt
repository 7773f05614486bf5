use Rattle.std.proofs.Common.{◌≡◌, length}
use Rattle.pep440_version.specs.Order.{stripped}
use Rattle.pep440_key.proofs.components.without_end_zeros.Given as goal

abbrev pub invariant-loop-last : goal.invariant-loop-last
invariant-loop-last l = stripped l.front ≡ stripped l.numbers

abbrev pub decreases-loop-last : goal.decreases-loop-last
decreases-loop-last l = length l.front
