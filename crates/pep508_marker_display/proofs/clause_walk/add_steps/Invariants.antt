use Rattle.std.proofs.Common.{◌≡◌, ◌++◌, reverse, length}
use Rattle.pep508_marker_display.specs.Steps.{steps_shown}
use Rattle.pep508_marker_display.specs.Pending.{all_at, waits_shown}
use Rattle.pep508_marker_display.proofs.clause_walk.add_steps.Given as goal

abbrev pub invariant-loop-step : goal.invariant-loop-step
invariant-loop-step l =
    waits_shown l.waiting.items ++ all_at l.depth (reverse (steps_shown l.left.items))
    ≡ waits_shown l.fn.waiting.items ++ all_at l.depth (reverse (steps_shown l.fn.steps.items))

abbrev pub decreases-loop-step : goal.decreases-loop-step
decreases-loop-step l = length l.left.items
