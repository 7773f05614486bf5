use Rattle.std.proofs.Common.{◌≡◌, ◌∙◌, ◌++◌, ◌==◌, [], ap, sym, subst}
use Rattle.pep508_leaf_diagram.specs.Leaves.{IsGraph, leaf_at}
use Rattle.pep508_leaf_diagram.specs.Pairing.{leaf_in}
use Rattle.pep508_leaf_diagram.specs.Trees.{AreLeafTrees}
use Rattle.pep508_leaf_diagram.proofs.LeafTrees.{plain_graph, plain_leaf, trees_by}
use Rattle.pep508_leaf_diagram.proofs.trees.leaf_trees.Goals as goal

pub push_trees-requires-clause-graph : goal.push_trees-requires-clause-graph
push_trees-requires-clause-graph c =
    let d = c.args.diagram.now in
    subst (IsGraph [] d.leaves) (sym c.deref.ensures.value)
    (plain_graph c.args.interner.now.nodes [] d.leaves d.nodes.items c.requires.graph)

pub returns-clause-each : goal.returns-clause-each
returns-clause-each c =
    let inner = c.args.interner.now.nodes in
    let new = c.push_trees.new.interner.nodes in
    let d = c.args.diagram.now in
    let pushed = c.in_ok-push_trees.ensures.pushed in
    let here : c.push_trees.new.trees.items ≡ pushed.more =
    pushed.new_is ∙ ap (λ xs. xs ++ pushed.more) c.in_ok-trees.ensures.items in
    subst (AreLeafTrees new (leaf_in inner d d.root) 0) (sym here)
    (trees_by new (leaf_at [] c.deref.result.now d.root) (leaf_in inner d d.root) 0 pushed.more
    (λ n low high v.
    ap (λ x. x == n) (ap (λ ns. leaf_at [] ns d.root v) c.deref.ensures.value
    ∙ sym (plain_leaf inner [] d.leaves d.nodes.items c.requires.graph _ d.root c.requires.root v)))
    pushed.each)
