use Rattle.std.proofs.Common.{◌≡◌, ◌++◌}
use Rattle.pep508_cases.specs.Seen.{cases_seen}
use Rattle.pep508_cases.proofs.collecting.as_cases.Given as goal

abbrev pub invariant-loop-set : goal.invariant-loop-set
invariant-loop-set l = cases_seen l.cases.items ++ l.set-iterator ≡ l.fn.found.entries
