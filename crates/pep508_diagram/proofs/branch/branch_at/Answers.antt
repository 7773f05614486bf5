use Rattle.std.proofs.Common.{◌≡◌, ◌<◌, suc, length, rules, arith, sym, subst}
use Rattle.std.proofs.lemmas.List.Sorted.{IsPartitionPoint-from_clause}
use Rattle.version_ranges.specs.Point.{At}
use Rattle.pep508_diagram.proofs.Branching.{reached, IsReach, partitioned, at_none, at_last}
use Rattle.pep508_diagram.proofs.branch.branch_at.Goals as goal

pub returns-in-Some : goal.returns-in-Some
returns-in-Some g c =
    let split = IsPartitionPoint-from_clause (reached g.T.Ord.cmp (At c.args.value.now)) c.args.later.now
    c.partition_point-reached.result c.partition_point-reached.ensures.partitioned
    (partitioned g.met.T.Ord.total c.args.later.now (At c.args.value.now) c.requires)
    (λ a r f h. search rules) in
    let count : c.partition_point-reached.result ≡ suc c.in-Some.last = omega (arith, c.in-Some.ensures) in
    let inside : c.in-Some.last < length c.args.later.now =
    omega (arith, c.in-Some.ensures, c.partition_point-reached.ensures.bound) in
    sym (at_last g.T.Ord.cmp (At c.args.value.now) c.args.first c.args.later.now c.in-Some.last
    c.index-later-last.result inside
    (subst (IsReach g.T.Ord.cmp (At c.args.value.now) c.args.later.now) count split))

pub returns-in-None : goal.returns-in-None
returns-in-None g c =
    let split = IsPartitionPoint-from_clause (reached g.T.Ord.cmp (At c.args.value.now)) c.args.later.now
    c.partition_point-reached.result c.partition_point-reached.ensures.partitioned
    (partitioned g.met.T.Ord.total c.args.later.now (At c.args.value.now) c.requires)
    (λ a r f h. search rules) in
    let none : c.partition_point-reached.result ≡ 0 = omega (arith, c.in-None.ensures) in
    sym (at_none g.T.Ord.cmp (At c.args.value.now) c.args.first c.args.later.now
    (subst (IsReach g.T.Ord.cmp (At c.args.value.now) c.args.later.now) none split))
