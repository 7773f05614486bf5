use Rattle.std.proofs.Common.{length}
use Rattle.pep508_error.specs.Cursors.{IsBehind, behind}
use Rattle.pep508_requirement_text.proofs.message.last_of_name.Given as goal

abbrev pub invariant-loop-c : goal.invariant-loop-c
invariant-loop-c l = IsBehind l.start l.last × IsBehind l.start l.next

abbrev pub decreases-loop-c : goal.decreases-loop-c
decreases-loop-c l = length (behind l.next)
