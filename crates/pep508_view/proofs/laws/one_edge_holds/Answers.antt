use Rattle.pep508_view.proofs.Reading.{one_holds}
use Rattle.pep508_view.proofs.laws.one_edge_holds.Goals as goal

pub returns : goal.returns
returns g c = one_holds g.T.Ord.cmp g.met.T.Ord.total
