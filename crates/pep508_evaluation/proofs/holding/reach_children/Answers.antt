use Rattle.std.proofs.Common.{◌+◌, ap, sym, ◌∙◌, drop}
use Rattle.std.specs.BTreeSet.{insert_key}
use Rattle.pep508_tree.specs.Nodes.{tree_cmp}
use Rattle.pep508_tree.specs.Roots.{root_of}
use Rattle.pep508_evaluation.specs.Steps.{children_of, with_trees}
use Rattle.pep508_evaluation.proofs.Reaching.{behind_next}
use Rattle.pep508_evaluation.proofs.holding.reach_children.Goals as goal

pub loop-index-preserved : goal.loop-index-preserved
loop-index-preserved c =
    let under = children_of (root_of c.args.interner.now.nodes c.args.tree) in
    let put = c.in_ok-insert.ensures.keys ∙ ap (insert_key tree_cmp c.loop-index.reached.keys) c.new.ensures in
    ap (λ keys. with_trees keys (drop (c.loop-index.index + 1) under)) put
    ∙ sym (ap (with_trees c.loop-index.reached.keys)
    (behind_next under c.loop-index.index c.in-Some.child (sym c.in-Some.ensures.child)))
    ∙ c.loop-index.invariant
