use Rattle.version_ranges.specs.OrderLaws.{points_total}
use Rattle.version_ranges.proofs.laws.points_are_ordered.Goals as goal

pub returns : goal.returns
returns g c = points_total g.T.Ord.cmp g.met.T.Ord.total
