use Rattle.std.proofs.Common.{rules, leb}
use Rattle.std.proofs.lemmas.List.Sorted.{IsPartitionPoint-from_clause, IsPartitionedBy-leb}
use Rattle.reqtable_search.proofs.Places.{as_cut}
use Rattle.reqtable_search.proofs.undecided.places_upto.Goals as goal

pub returns-clause-point : goal.returns-clause-point
returns-clause-point c =
    as_cut c.args.places.now c.args.at c.partition_point.result
    (IsPartitionPoint-from_clause (λ p. leb p c.args.at) c.args.places.now c.partition_point.result
    c.partition_point.ensures.partitioned (IsPartitionedBy-leb (λ p. p) c.args.places.now c.args.at c.requires)
    (λ a r f h. search rules))
