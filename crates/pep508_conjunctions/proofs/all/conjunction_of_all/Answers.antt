use Rattle.std.proofs.Common.{◌∙◌, ap}
use Rattle.std.proofs.lemmas.Result.{IfOk-weaker}
use Rattle.pep508_conjunctions.specs.Sources.{all_hold}
use Rattle.pep508_conjunctions.proofs.Sources.{all_hold_kept}
use Rattle.pep508_conjunctions.proofs.Orders.{moved_hold}
use Rattle.pep508_conjunctions.proofs.all.conjunction_of_all.Goals as goal

pub returns-clause-truth : goal.returns-clause-truth
returns-clause-truth c =
    let trees = c.args.trees.now in
    let nodes = c.of_one_key.new.interner.nodes in
    IfOk-weaker c.by_halves-2.result _ _
    (λ tree h v.
    h v ∙ ap (λ ts. all_hold nodes c.args.negated ts v) c.deref.ensures.value
    ∙ moved_hold nodes c.args.negated trees c.in_ok-sorted.sorted.items c.in_ok-sorted.ensures v
    ∙ all_hold_kept c.args.interner.now.nodes nodes c.in_ok-tree.ensures.keeps c.args.negated trees c.requires v)
    c.by_halves-2.ensures.truth
