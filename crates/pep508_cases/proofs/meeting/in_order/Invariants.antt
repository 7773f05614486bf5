use Rattle.std.proofs.Common.{◌≡◌, ◌++◌}
use Rattle.pep508_cases.proofs.meeting.in_order.Given as goal

abbrev pub invariant-loop-pair : goal.invariant-loop-pair
invariant-loop-pair l = l.pairs.items ++ l.pair-iterator ≡ l.fn.found.keys
