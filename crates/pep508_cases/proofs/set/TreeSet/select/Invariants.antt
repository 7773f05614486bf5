use Rattle.std.proofs.Common.{◌≡◌, ◌++◌, drop}
use Rattle.pep508_cases.specs.Sets.{marks_by, marked}
use Rattle.pep508_cases.proofs.set.TreeSet.select.Given as goal

abbrev pub invariant-loop-run : goal.invariant-loop-run
invariant-loop-run l =
    (l.found.items ++ marked (marks_by l.mark (drop l.run-index l.run-items)) l.left)
    ≡ marked l.self l.numbers
