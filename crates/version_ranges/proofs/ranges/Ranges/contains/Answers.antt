use Rattle.std.proofs.Common.{rules}
use Rattle.std.proofs.lemmas.List.Sorted.{IsPartitionPoint-from_clause}
use Rattle.version_ranges.specs.Point.{At, point_cmp}
use Rattle.version_ranges.specs.Turns.{reaches}
use Rattle.version_ranges.specs.Boundaries.{point_of}
use Rattle.version_ranges.proofs.Searching.{partitioned, held_by_count}
use Rattle.version_ranges.proofs.ranges.Ranges.contains.Goals as goal

pub returns : goal.returns
returns g c =
    let turns = c.turns-starts_held in
    held_by_count g.T.Ord.cmp turns.result.0 turns.result.1.now c.args.self.now (At c.args.value.now)
    c.partition_point-reached.result turns.ensures.turns c.partition_point-reached.ensures.bound
    (IsPartitionPoint-from_clause (λ b. reaches (point_cmp g.T.Ord.cmp) (point_of b) (At c.args.value.now))
    turns.result.1.now c.partition_point-reached.result c.partition_point-reached.ensures.partitioned
    (partitioned g.T.Ord.cmp g.met.T.Ord.total turns.result.0 turns.result.1.now c.args.self.now
    (At c.args.value.now)
    turns.ensures.turns turns.ensures.normal)
    (λ a r f h. search rules))
