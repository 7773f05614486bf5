use Rattle.version_ranges.proofs.Turning.{normal_copies, copies_hold}
use Rattle.version_ranges.proofs.ranges.Ranges.copied.Goals as goal

pub invariant_of-result : goal.invariant_of-result
invariant_of-result g c =
    normal_copies g.T.Ord.cmp g.met.T.Ord.total c.args.starts_held c.in_ok-copies.field-0.items
    c.args.boundaries.now
    c.in_ok-copies.ensures c.requires

pub returns : goal.returns
returns g c =
    copies_hold g.T.Ord.cmp g.met.T.Ord.total c.args.starts_held c.in_ok-copies.field-0.items
    c.args.boundaries.now
    c.in_ok-copies.ensures
