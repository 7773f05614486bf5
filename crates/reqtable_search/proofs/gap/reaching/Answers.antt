use Rattle.std.proofs.Common.{rules}
use Rattle.std.proofs.lemmas.List.Sorted.{IsPartitionPoint-from_clause}
use Rattle.version_ranges.specs.Boundaries.{point_of}
use Rattle.reqtable_search.specs.InRun.{version_of}
use Rattle.reqtable_search.proofs.Falling.{reached_by, falls_parted}
use Rattle.reqtable_search.proofs.gap.reaching.Goals as goal

pub returns-clause-point : goal.returns-clause-point
returns-clause-point c =
    IsPartitionPoint-from_clause (λ x. reached_by (point_of c.args.boundary.now) (version_of x)) c.args.placed.now
    c.partition_point.result c.partition_point.ensures.partitioned
    (falls_parted (point_of c.args.boundary.now) c.args.placed.now c.requires) (λ a r f h. search rules)
