use Rattle.version_ranges.proofs.Comparing.{equal_holds, same_equal}
use Rattle.version_ranges.proofs.laws.order_agrees_with_points.Goals as goal

pub returns : goal.returns
returns g c =
    λ a b h k. (
      equal_holds g.T.Ord.cmp g.met.T.Ord.total a b h k,
      same_equal g.T.Ord.cmp g.met.T.Ord.total a
          b h k,
    )
