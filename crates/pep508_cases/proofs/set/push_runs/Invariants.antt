use Rattle.pep508_cases.proofs.Runs.{IsSplit}
use Rattle.pep508_cases.proofs.set.push_runs.Given as goal

abbrev pub invariant-loop-next : goal.invariant-loop-next
invariant-loop-next l = IsSplit l.first l.later l.next-index l.runs.items l.mark l.run
