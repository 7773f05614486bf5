use Rattle.reqtable_covers.proofs.Through.{same_covers, same_covered}
use Rattle.reqtable_covers.proofs.laws.lists_that_require_the_same_cover_each_other.Goals as goal

pub returns : goal.returns
returns c = record { left = same_covers; right = same_covered }
