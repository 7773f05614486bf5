use Rattle.std.proofs.Common.{◌≡◌, ◌≤◌, length}
use Rattle.pep508_marker_text_laws.specs.Groups.{turning}
use Rattle.pep508_marker_display.specs.Trees.{is_at}
use Rattle.pep508_marker_display.proofs.intervals.next_turn.Given as goal

abbrev pub invariant-loop-branch : goal.invariant-loop-branch
invariant-loop-branch g l =
    (turning (is_at l.tree l.fn.outside) l.fn.held l.left ≡ turning (is_at l.tree l.fn.outside) l.fn.held l.later)
    × (length l.left ≤ length l.later)

abbrev pub decreases-loop-branch : goal.decreases-loop-branch
decreases-loop-branch g l = length l.left
