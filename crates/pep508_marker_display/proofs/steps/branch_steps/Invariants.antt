use Rattle.std.proofs.Common.{◌≡◌, ◌++◌, map, drop}
use Rattle.std.specs.List.{flat_map}
use Rattle.pep508_marker_display.specs.Steps.{steps_shown, turned_step, group_steps, branch_steps}
use Rattle.pep508_marker_display.proofs.steps.branch_steps.Given as goal

abbrev pub invariant-loop-tree : goal.invariant-loop-tree
invariant-loop-tree g l =
    steps_shown l.steps.items
    ++ map (turned_step l.fn.negated)
    (flat_map (group_steps (g.S.Says.saying l.says) l.first l.later) (drop l.tree-index l.tree-items))
    ≡ map (turned_step l.fn.negated) (branch_steps (g.S.Says.saying l.says) l.first l.later)
