use Rattle.std.proofs.Common.{◌∙◌, ◌++◌, ap, sym, subst, take}
use Rattle.std.proofs.lemmas.List.{take_all}
use Rattle.reqtable_range.specs.Sorting.{StandFor}
use Rattle.reqtable_range.specs.Together.{lent}
use Rattle.reqtable_range.proofs.Fewer.{lent_both, lent_next}
use Rattle.reqtable_range.proofs.single.without_implied.Goals as goal

pub loop-member-preserved : goal.loop-member-preserved
loop-member-preserved c =
    let members = c.args.members.now in
    let i = c.loop-member.member-index in
    let new = c.add.new.parted in
    subst
    (λ xs. StandFor xs ((lent new.others.items ++ lent new.ends.items) ++ lent new.exact.items))
    (lent_next members i c.member-item.result c.loop-member-test.true c.member-item.is)
    (c.in_ok-add.ensures (lent (take i members)) c.loop-member.invariant)

pub returns : goal.returns
returns c =
    let members = c.args.members.now in
    let i = c.loop-member.member-index in
    let parted = c.loop-member.parted in
    let left = c.append-2.new.self.items in
    let first = ap lent c.in_ok-append.ensures.items ∙ lent_both parted.others.items parted.ends.items in
    let both = ap lent c.in_ok-append-2.ensures.items ∙ lent_both c.append.new.self.items parted.exact.items
    ∙ ap (λ xs. xs ++ lent parted.exact.items) first in
    subst (λ xs. StandFor (lent xs) (lent left)) (take_all i members c.loop-member-test.false)
    (subst (λ ys. StandFor (lent (take i members)) ys) (sym both) c.loop-member.invariant)
