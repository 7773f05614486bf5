use Rattle.std.proofs.Common.{◌≤◌, ◌<◌, ◌-◌, length}
use Rattle.pep508_cases.proofs.cases.further.Given as goal

abbrev pub invariant-loop-count : goal.invariant-loop-count
invariant-loop-count l = record { some : 0 < l.count; inside : l.count ≤ length l.trees }

abbrev pub decreases-loop-count : goal.decreases-loop-count
decreases-loop-count l = l.count - 1
