use Rattle.std.proofs.Common.{◌≡◌, ◌<◌, suc, length, rules, arith, sym, subst}
use Rattle.std.proofs.lemmas.List.Sorted.{IsPartitionPoint-from_clause}
use Rattle.std.specs.Cmp.Lexicographic.{nat_list_cmp_total}
use Rattle.version_ranges.specs.Point.{At}
use Rattle.pep508_diagram.specs.Text.{text_cmp}
use Rattle.pep508_diagram.proofs.Branching.{reached, IsReach, partitioned, at_none, at_last}
use Rattle.pep508_evaluation.proofs.chosen.branch_at_text.Goals as goal

pub returns-in-Some : goal.returns-in-Some
returns-in-Some c =
    let split = IsPartitionPoint-from_clause (reached text_cmp (At c.args.text.now)) c.args.later.now
    c.partition_point-reached.result c.partition_point-reached.ensures.partitioned
    (partitioned nat_list_cmp_total c.args.later.now (At c.args.text.now) c.requires)
    (λ a r f h. search rules) in
    let count : c.partition_point-reached.result ≡ suc c.in-Some.last = omega (arith, c.in-Some.ensures) in
    let inside : c.in-Some.last < length c.args.later.now =
    omega (arith, c.in-Some.ensures, c.partition_point-reached.ensures.bound) in
    sym (at_last text_cmp (At c.args.text.now) c.args.first c.args.later.now c.in-Some.last
    c.index-later-last.result inside
    (subst (IsReach text_cmp (At c.args.text.now) c.args.later.now) count split))

pub returns-in-None : goal.returns-in-None
returns-in-None c =
    let split = IsPartitionPoint-from_clause (reached text_cmp (At c.args.text.now)) c.args.later.now
    c.partition_point-reached.result c.partition_point-reached.ensures.partitioned
    (partitioned nat_list_cmp_total c.args.later.now (At c.args.text.now) c.requires)
    (λ a r f h. search rules) in
    let none : c.partition_point-reached.result ≡ 0 = omega (arith, c.in-None.ensures) in
    sym (at_none text_cmp (At c.args.text.now) c.args.first c.args.later.now
    (subst (IsReach text_cmp (At c.args.text.now) c.args.later.now) none split))
