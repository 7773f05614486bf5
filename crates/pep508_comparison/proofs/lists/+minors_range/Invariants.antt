use Rattle.std.proofs.Common.{length}
use Rattle.pep508_comparison.proofs.lists.+minors_range.Given as goal

abbrev pub decreases-minors_range : goal.decreases-minors_range
decreases-minors_range l = length l.versions.now
