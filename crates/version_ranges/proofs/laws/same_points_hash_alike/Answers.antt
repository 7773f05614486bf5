use Rattle.std.proofs.Common.{ap}
use Rattle.std.specs.Ordering.{is_eq}
use Rattle.version_ranges.specs.HashingLaws.{alike_ranges}
use Rattle.version_ranges.proofs.Comparing.{same_equal}
use Rattle.version_ranges.proofs.laws.same_points_hash_alike.Goals as goal

pub returns : goal.returns
returns g c = λ a b h k s.
    alike_ranges g.T.Ord.cmp g.T.PartialEq.eq g.T.Hash.hash_input g.met.T.Ord.matches_eq
    g.met.T.Hash.respects_eq a b
    (ap is_eq (same_equal g.T.Ord.cmp g.met.T.Ord.total a b h k s))
