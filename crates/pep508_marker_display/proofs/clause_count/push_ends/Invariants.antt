use Rattle.std.proofs.Common.{◌≡◌, ◌++◌, take}
use Rattle.pep508_marker_display.specs.Ends.{ends_by}
use Rattle.pep508_marker_display.specs.Steps.{steps_shown}
use Rattle.pep508_marker_display.proofs.clause_count.push_ends.Given as goal

abbrev pub invariant-loop-step : goal.invariant-loop-step
invariant-loop-step l =
    l.waiting.items ≡ l.fn.waiting.items ++ ends_by l.has_terms (steps_shown (take l.step-index l.steps))
