use Rattle.version_ranges.proofs.Reading.{held_in_intervals}
use Rattle.version_ranges.proofs.laws.intervals_hold_the_set.Goals as goal

pub returns : goal.returns
returns g c = held_in_intervals g.T.Ord.cmp g.met.T.Ord.total
