use Rattle.std.proofs.Common.{◌++◌, subst, take}
use Rattle.std.proofs.lemmas.List.{take_all}
use Rattle.reqtable_range.specs.Sorting.{SortsInto}
use Rattle.reqtable_range.proofs.ByKind.{one_added}
use Rattle.reqtable_range.proofs.specifier_sets.add_all.Goals as goal

pub loop-member-preserved : goal.loop-member-preserved
loop-member-preserved c = λ before h.
    let members = c.args.members.now in
    let i = c.loop-member.member-index in
    subst (λ all. SortsInto all c.add.new.sorted) (one_added members i c.member-item.result c.loop-member-test.true c.member-item.is before)
    (c.in_ok-add.ensures (before ++ take i members) (c.loop-member.invariant before h))

pub returns : goal.returns
returns c = λ before h.
    subst (λ members. SortsInto (before ++ members) c.loop-member.sorted) (take_all c.loop-member.member-index c.args.members.now c.loop-member-test.false)
    (c.loop-member.invariant before h)
