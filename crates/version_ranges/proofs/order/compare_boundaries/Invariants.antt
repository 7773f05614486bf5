use Rattle.std.proofs.Common.{◌≡◌, length}
use Rattle.version_ranges.specs.Order.{ranges_cmp}
use Rattle.version_ranges.specs.Boundaries.{turns_of}
use Rattle.version_ranges.proofs.order.compare_boundaries.Given as goal

abbrev pub invariant-loop-boundary : goal.invariant-loop-boundary
invariant-loop-boundary g l =
    ranges_cmp g.T.Ord.cmp (turns_of l.inside l.left) (turns_of l.inside l.right)
    ≡ ranges_cmp g.T.Ord.cmp (turns_of l.starts_held l.boundaries) (turns_of l.starts_held l.others)

abbrev pub decreases-loop-boundary : goal.decreases-loop-boundary
decreases-loop-boundary g l = length l.left
