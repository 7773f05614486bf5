use Rattle.std.proofs.Common.{◌+◌, ◌*◌, ◌-◌}
use Rattle.pep508_leaf_diagram.proofs.trees.+push_trees.Given as goal

abbrev pub decreases-push_trees : goal.decreases-push_trees
decreases-push_trees l = 2 * (l.to - l.from)

abbrev pub decreases-push_halves : goal.decreases-push_halves
decreases-push_halves l = 2 * (l.to - l.from) + 1
