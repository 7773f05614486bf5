use Rattle.version_ranges.proofs.Apart.{intervals_apart}
use Rattle.version_ranges.proofs.laws.intervals_are_apart.Goals as goal

pub returns : goal.returns
returns g c = intervals_apart g.T.Ord.cmp g.met.T.Ord.total
