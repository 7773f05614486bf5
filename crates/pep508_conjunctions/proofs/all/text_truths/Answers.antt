use Rattle.std.proofs.Common.{sym, subst}
use Rattle.std.specs.List.{AllByRecursion}
use Rattle.pep508_diagram.specs.Text.{text_cmp}
use Rattle.pep508_conjunctions.specs.Meets.{IsLeaf}
use Rattle.pep508_conjunctions.proofs.Sources.{all_leaves, are_meet}
use Rattle.pep508_conjunctions.proofs.all.text_truths.Goals as goal

pub meet_all-requires : goal.meet_all-requires
meet_all-requires c =
    subst (AllByRecursion (IsLeaf text_cmp)) (sym c.deref.ensures.value)
    (all_leaves text_cmp (λ v. v.text c.args.key) c.args.interner.now.nodes c.args.negated c.args.trees.now c.in-Some.sources.items
    (rw c.in-Some.is at c.in_ok-sources.ensures))

pub returns : goal.returns
returns c =
    are_meet text_cmp (λ v. v.text c.args.key) c.args.interner.now.nodes c.args.negated c.args.trees.now c.in-Some.sources.items
    c.deref.result.now c.deref.ensures.value (rw c.in-Some.is at c.in_ok-sources.ensures) c.in_ok-truths.truths c.in_ok-copy.copy
    c.in_ok-truths.ensures.points c.in_ok-truths.ensures.rises c.in_ok-truths.ensures.differ c.in_ok-copy.ensures
