use Rattle.std.proofs.Common.{◌≡◌, ◌+◌, length, map}
use Rattle.version_ranges.specs.Point.{point_cmp}
use Rattle.version_ranges.specs.Boundaries.{point_of, turns_of}
use Rattle.version_ranges.specs.Merging.{combined}
use Rattle.version_ranges.proofs.Pass.{Joined}
use Rattle.version_ranges.proofs.merge.merged.Given as goal

abbrev pub invariant-loop-next : goal.invariant-loop-next
invariant-loop-next g l = record {
  joined : Joined (point_cmp g.T.Ord.cmp) (combined l.combination) l.first l.second
      (turns_of l.starts_held l.boundaries.items) (map point_of l.first_left) (map point_of l.second_left)
      l.in_first l.in_second;
  inside : l.inside ≡ combined l.combination l.in_first l.in_second;
}

abbrev pub decreases-loop-next : goal.decreases-loop-next
decreases-loop-next g l = length l.first_left + length l.second_left
