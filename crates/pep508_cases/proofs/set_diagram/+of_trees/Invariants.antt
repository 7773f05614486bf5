use Rattle.std.proofs.Common.{length}
use Rattle.pep508_cases.proofs.set_diagram.+of_trees.Given as goal

abbrev pub decreases-of_trees : goal.decreases-of_trees
decreases-of_trees l = length l.trees.now
