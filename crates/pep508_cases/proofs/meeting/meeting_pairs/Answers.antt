use Rattle.std.proofs.Common.{◌∙◌, ap, sym, subst}
use Rattle.std.specs.List.Sorted.{IsStrictlySortedBy}
use Rattle.pep508_cases.specs.Pairs.{pair_cmp, is_listed}
use Rattle.pep508_cases.proofs.Meet.{merged_meet}
use Rattle.pep508_cases.proofs.meeting.meeting_pairs.Goals as goal

pub returns : goal.returns
returns c =
    let first = rw c.in-Some.is at c.in_ok-first.ensures in
    let second = rw c.in-Some-2.is at c.in_ok-second.ensures in
    let merged = rw c.in-Some-both.is at c.in_ok-both.ensures in
    merged_meet c.args.interner.now.nodes c.args.left.now c.args.right.now c.in-Some.first c.in-Some-2.second
    c.in-Some-both.merged c.deref.result.now c.in_ok-pairs.pairs.items first.marked second.marked merged
    c.deref.ensures.value first.short second.short first.count second.count
    (subst (IsStrictlySortedBy pair_cmp) (sym c.in_ok-pairs.ensures.pairs) c.in_ok-pairs.ensures.rising)
    (λ pair. ap (λ pairs. is_listed pairs pair) c.in_ok-pairs.ensures.pairs ∙ c.in_ok-found.ensures pair)
