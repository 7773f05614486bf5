use Rattle.version_ranges.proofs.Spanning.{hull_spans}
use Rattle.version_ranges.proofs.laws.hull_spans_the_set.Goals as goal

pub returns : goal.returns
returns g c = hull_spans g.T.Ord.cmp g.met.T.Ord.total
