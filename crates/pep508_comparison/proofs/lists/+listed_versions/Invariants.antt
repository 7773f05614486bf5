use Rattle.std.proofs.Common.{length}
use Rattle.pep508_comparison.proofs.lists.+listed_versions.Given as goal

abbrev pub decreases-listed_versions : goal.decreases-listed_versions
decreases-listed_versions l = length l.versions.now
