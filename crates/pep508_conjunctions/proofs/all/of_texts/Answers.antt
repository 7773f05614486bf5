use Rattle.std.proofs.Common.{◌∙◌, ◌∷◌, [], subst, ap₂}
use Rattle.pep508_diagram.specs.Question.{text_rank}
use Rattle.pep508_tree.specs.Meaning.{Texts}
use Rattle.pep508_tree.specs.Nodes.{Made}
use Rattle.pep508_tree.proofs.Leaves.{leaf_made, leaf_above, leaf_rises, leaf_joined, leaf_holds}
use Rattle.pep508_conjunctions.proofs.all.of_texts.Goals as goal

pub texts_node-requires-clause-made : goal.texts_node-requires-clause-made
texts_node-requires-clause-made c =
    rw (c.constant.ensures, c.in_ok-later.ensures)
    (leaf_made c.args.interner.now.nodes (Texts c.args.key c.in-Some.truths.first c.in-Some.truths.later.items))

pub texts_node-requires-clause-above : goal.texts_node-requires-clause-above
texts_node-requires-clause-above c =
    rw (c.constant.ensures, c.in_ok-later.ensures)
    (leaf_above c.args.interner.now.nodes (text_rank c.args.key ∷ [])
    (Texts c.args.key c.in-Some.truths.first c.in-Some.truths.later.items))

pub texts_node-requires-clause-rises : goal.texts_node-requires-clause-rises
texts_node-requires-clause-rises c =
    rw c.in_ok-later.ensures
    (leaf_rises (Texts c.args.key c.in-Some.truths.first c.in-Some.truths.later.items) (rw c.in-Some.is at c.in_ok-truths.ensures).rises)

pub texts_node-requires-clause-differ : goal.texts_node-requires-clause-differ
texts_node-requires-clause-differ c =
    rw (c.constant.ensures, c.in_ok-later.ensures)
    (leaf_joined (Texts c.args.key c.in-Some.truths.first c.in-Some.truths.later.items) (rw c.in-Some.is at c.in_ok-truths.ensures).differ)

pub returns-clause-truth : goal.returns-clause-truth
returns-clause-truth c =
    λ v.
    let first = c.in-Some.truths.first in
    let later = c.in-Some.truths.later.items in
    leaf_holds c.args.interner.now.nodes c.texts_node.new.self.nodes (Texts c.args.key first later) c.in_ok-tree.tree
    (subst (λ n. Made c.args.interner.now.nodes c.texts_node.new.self.nodes n c.in_ok-tree.tree)
    (ap₂ (Texts c.args.key) c.constant.ensures c.in_ok-later.ensures) c.in_ok-tree.ensures.made) v
    ∙ (rw c.in-Some.is at c.in_ok-truths.ensures).truth_is v
