use Rattle.std.proofs.Common.{◌≡◌, drop}
use Rattle.std.specs.List.{list_any}
use Rattle.pep508_marker_display.specs.Trees.{same_tree}
use Rattle.pep508_marker_display.proofs.steps.contains.Given as goal

abbrev pub invariant-loop-other : goal.invariant-loop-other
invariant-loop-other l =
    list_any (λ other. same_tree other l.tree) (drop l.other-index l.trees)
    ≡ list_any (λ other. same_tree other l.tree) l.trees
