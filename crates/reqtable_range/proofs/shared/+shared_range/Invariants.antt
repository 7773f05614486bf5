use Rattle.std.proofs.Common.{length}
use Rattle.reqtable_range.proofs.shared.+shared_range.Given as goal

abbrev pub decreases-shared_range : goal.decreases-shared_range
decreases-shared_range l = length l.members.now
