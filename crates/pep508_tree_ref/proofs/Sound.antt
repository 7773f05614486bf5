-- What holds of each tree of a sound interner.
use Rattle.pep508_tree.proofs.OneTree.{canonical_trees}
use Rattle.pep508_tree.proofs.Shortened.{short_trees}

pub ruleset sound_trees = (canonical_trees, short_trees)
