use Rattle.std.proofs.Common.{◌≡◌, ◌++◌, map, take, drop}
use Rattle.pep508_tree.specs.Nodes.{turned_branch}
use Rattle.pep508_tree.proofs.table.turn.Given as goal

abbrev pub invariant-loop-branch : goal.invariant-loop-branch
invariant-loop-branch g l =
    l.later ≡ map turned_branch (take l.branch-index l.initial.later) ++ drop l.branch-index l.initial.later
