use Rattle.std.proofs.Common.{◌+◌, length, ap, arith, refl}
use Rattle.std.proofs.lemmas.List.{take_all}
use Rattle.reqtable_answer.proofs.Counting.{listed, one_more, front_is_less}
use Rattle.reqtable_answer.proofs.ranged.has_more_members.Goals as goal

pub returns-then-left-count : goal.returns-then-left-count
returns-then-left-count c =
    let lists = c.args.lists.now in
    let i = c.loop-list.list-index in
    let more = one_more lists i c.list-item.result c.loop-list-test.true c.list-item.is in
    let less = front_is_less lists (i + 1) in
    let members = ap length c.as_slice-count.ensures.members in
    let above = c.if-left-count.true in
    let counted = c.loop-list.invariant in
    (λ it. omega arith, λ it. refl)

pub loop-list-preserved : goal.loop-list-preserved
loop-list-preserved c =
    let lists = c.args.lists.now in
    let i = c.loop-list.list-index in
    let more = one_more lists i c.list-item.result c.loop-list-test.true c.list-item.is in
    let members = ap length c.as_slice-count.ensures.members in
    let counted = c.loop-list.invariant in
    omega arith

pub returns : goal.returns
returns c =
    let counted = c.loop-list.invariant in
    let all = ap (λ lists. length (listed lists)) (take_all c.loop-list.list-index c.args.lists.now c.loop-list-test.false) in
    (λ it. absurd (cc), λ it. absurd (omega arith))
