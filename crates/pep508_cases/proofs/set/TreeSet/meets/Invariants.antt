use Rattle.std.proofs.Common.{◌≡◌, ◌+◌}
use Rattle.pep508_cases.specs.Sets.{marks_meet, rest_marks, rest_runs}
use Rattle.pep508_cases.proofs.set.TreeSet.meets.Given as goal

abbrev pub invariant-loop-left : goal.invariant-loop-left
invariant-loop-left l = marks_meet (rest_marks l.left) (rest_marks l.right) ≡ marks_meet l.self l.other

abbrev pub decreases-loop-left : goal.decreases-loop-left
decreases-loop-left l = rest_runs l.left + rest_runs l.right
