use Rattle.std.proofs.Common.{rules}
use Rattle.std.proofs.lemmas.List.Sorted.{IsPartitionPoint-from_clause}
use Rattle.version_ranges.specs.Boundaries.{point_of}
use Rattle.reqtable_search.proofs.Falling.{reached_by}
use Rattle.reqtable_search.proofs.Gaps.{boundaries_parted}
use Rattle.reqtable_search.proofs.gap.reached.Goals as goal

pub returns-clause-point : goal.returns-clause-point
returns-clause-point c =
    IsPartitionPoint-from_clause (λ b. reached_by (point_of b) c.args.version.now) c.args.boundaries.now
    c.partition_point.result c.partition_point.ensures.partitioned
    (boundaries_parted c.args.boundaries.now c.args.version.now c.requires) (λ a r f h. search rules)
