-- Steps that wait, each with how many terms of a path lead up to it.
use Rattle.std.specs.Prelude.{ℕ, List, map}
use Rattle.pep508_marker_display.specs.declared.clause_walk.Pending.{Pending}
use Rattle.pep508_marker_display.specs.Steps.{StepRecord, step_of}

abbrev pub waits_shown : List Pending → List (ℕ × StepRecord)
waits_shown waiting = map (λ pending. (pending.depth, step_of pending.step)) waiting

-- steps after one path
abbrev pub all_at : ℕ → List StepRecord → List (ℕ × StepRecord)
all_at depth steps = map (λ step. (depth, step)) steps
