use Rattle.std.proofs.Common.{sym, subst}
use Rattle.std.specs.List.{AllByRecursion}
use Rattle.pep440_version.specs.Order.{version_cmp}
use Rattle.pep508_conjunctions.specs.Meets.{IsLeaf}
use Rattle.pep508_conjunctions.proofs.Sources.{all_leaves, are_meet}
use Rattle.pep508_conjunctions.proofs.all.version_truths.Goals as goal

pub meet_all-requires : goal.meet_all-requires
meet_all-requires c =
    subst (AllByRecursion (IsLeaf version_cmp)) (sym c.deref.ensures.value)
    (all_leaves version_cmp (λ v. v.version c.args.key) c.args.interner.now.nodes c.args.negated c.args.trees.now c.in-Some.sources.items
    (rw c.in-Some.is at c.in_ok-sources.ensures))

pub returns : goal.returns
returns c =
    are_meet version_cmp (λ v. v.version c.args.key) c.args.interner.now.nodes c.args.negated c.args.trees.now c.in-Some.sources.items
    c.deref.result.now c.deref.ensures.value (rw c.in-Some.is at c.in_ok-sources.ensures) c.in_ok-truths.truths c.in_ok-copy.copy
    c.in_ok-truths.ensures.points c.in_ok-truths.ensures.rises c.in_ok-truths.ensures.differ c.in_ok-copy.ensures
