use Rattle.std.proofs.Common.{◌≡◌, ◌++◌, map, drop}
use Rattle.pep508_marker_text_laws.specs.Groups.{firsts, standing}
use Rattle.pep508_marker_display.specs.Trees.{same_tree}
use Rattle.pep508_marker_display.proofs.Grouping.{fresh}
use Rattle.pep508_marker_display.proofs.steps.groups.Given as goal

abbrev pub invariant-loop-branch : goal.invariant-loop-branch
invariant-loop-branch g l =
    l.trees.items ++ fresh l.trees.items (map (λ branch. branch.child) (drop l.branch-index l.later))
    ≡ firsts same_tree (standing l.fn.first l.later)
