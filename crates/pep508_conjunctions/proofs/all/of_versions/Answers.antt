use Rattle.std.proofs.Common.{◌∙◌, ◌∷◌, [], subst, ap₂}
use Rattle.pep508_diagram.specs.Question.{version_rank}
use Rattle.pep508_tree.specs.Meaning.{Versions}
use Rattle.pep508_tree.specs.Nodes.{Made}
use Rattle.pep508_tree.proofs.Leaves.{leaf_made, leaf_above, leaf_rises, leaf_joined, leaf_holds}
use Rattle.pep508_conjunctions.proofs.all.of_versions.Goals as goal

pub versions_node-requires-clause-made : goal.versions_node-requires-clause-made
versions_node-requires-clause-made c =
    rw (c.constant.ensures, c.in_ok-later.ensures)
    (leaf_made c.args.interner.now.nodes (Versions c.args.key c.in-Some.truths.first c.in-Some.truths.later.items))

pub versions_node-requires-clause-above : goal.versions_node-requires-clause-above
versions_node-requires-clause-above c =
    rw (c.constant.ensures, c.in_ok-later.ensures)
    (leaf_above c.args.interner.now.nodes (version_rank c.args.key ∷ [])
    (Versions c.args.key c.in-Some.truths.first c.in-Some.truths.later.items))

pub versions_node-requires-clause-rises : goal.versions_node-requires-clause-rises
versions_node-requires-clause-rises c =
    rw c.in_ok-later.ensures
    (leaf_rises (Versions c.args.key c.in-Some.truths.first c.in-Some.truths.later.items) (rw c.in-Some.is at c.in_ok-truths.ensures).rises)

pub versions_node-requires-clause-differ : goal.versions_node-requires-clause-differ
versions_node-requires-clause-differ c =
    rw (c.constant.ensures, c.in_ok-later.ensures)
    (leaf_joined (Versions c.args.key c.in-Some.truths.first c.in-Some.truths.later.items) (rw c.in-Some.is at c.in_ok-truths.ensures).differ)

pub returns-clause-truth : goal.returns-clause-truth
returns-clause-truth c =
    λ v.
    let first = c.in-Some.truths.first in
    let later = c.in-Some.truths.later.items in
    leaf_holds c.args.interner.now.nodes c.versions_node.new.self.nodes (Versions c.args.key first later) c.in_ok-tree.tree
    (subst (λ n. Made c.args.interner.now.nodes c.versions_node.new.self.nodes n c.in_ok-tree.tree)
    (ap₂ (Versions c.args.key) c.constant.ensures c.in_ok-later.ensures) c.in_ok-tree.ensures.made) v
    ∙ (rw c.in-Some.is at c.in_ok-truths.ensures).truth_is v
