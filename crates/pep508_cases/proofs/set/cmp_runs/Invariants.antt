use Rattle.std.proofs.Common.{◌≡◌, length}
use Rattle.pep508_cases.specs.Cases.{marks_cmp}
use Rattle.pep508_cases.specs.Sets.{marks_by}
use Rattle.pep508_cases.proofs.set.cmp_runs.Given as goal

abbrev pub invariant-loop-run : goal.invariant-loop-run
invariant-loop-run l =
    marks_cmp (marks_by l.mark l.left) (marks_by l.mark l.right)
    ≡ marks_cmp (marks_by l.first l.runs) (marks_by l.first l.others)

abbrev pub decreases-loop-run : goal.decreases-loop-run
decreases-loop-run l = length l.left
