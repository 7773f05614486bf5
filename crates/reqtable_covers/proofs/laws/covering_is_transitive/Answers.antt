use Rattle.reqtable_covers.proofs.Through.{covers_through}
use Rattle.reqtable_covers.proofs.laws.covering_is_transitive.Goals as goal

pub returns : goal.returns
returns c = covers_through
