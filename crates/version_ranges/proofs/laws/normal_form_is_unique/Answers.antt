use Rattle.version_ranges.specs.OrderLaws.{points_total}
use Rattle.version_ranges.proofs.Membership.{canonical}
use Rattle.version_ranges.proofs.laws.normal_form_is_unique.Goals as goal

pub returns : goal.returns
returns g c = canonical (points_total g.T.Ord.cmp g.met.T.Ord.total)
