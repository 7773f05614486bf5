use Rattle.std.proofs.Common.{◌∙◌, ◌++◌, ap, subst, take}
use Rattle.std.proofs.lemmas.List.{take_all}
use Rattle.reqtable_range.specs.Sorting.{SortsInto}
use Rattle.reqtable_range.proofs.ByKind.{listed, listed_more}
use Rattle.reqtable_range.proofs.specifier_sets.sorted_members.Goals as goal

pub loop-list-preserved : goal.loop-list-preserved
loop-list-preserved c =
    let lists = c.args.lists.now in
    let i = c.loop-list.list-index in
    let before = listed (take i lists) in
    subst (λ members. SortsInto members c.add_all.new.sorted)
    (ap (λ members. before ++ members) c.as_slice.ensures.members ∙ listed_more lists i c.list-item.result c.loop-list-test.true c.list-item.is)
    (c.in_ok-add_all.ensures before c.loop-list.invariant)

pub returns : goal.returns
returns c =
    subst (λ lists. SortsInto (listed lists) c.loop-list.sorted) (take_all c.loop-list.list-index c.args.lists.now c.loop-list-test.false)
    c.loop-list.invariant
