use Rattle.std.proofs.Common.{◌≡◌, drop}
use Rattle.pep508_tree.specs.Roots.{root_of}
use Rattle.pep508_evaluation.specs.Steps.{children_of, with_trees}
use Rattle.pep508_evaluation.proofs.holding.reach_children.Given as goal

abbrev pub invariant-loop-index : goal.invariant-loop-index
invariant-loop-index l =
    with_trees l.reached.keys (drop l.index (children_of (root_of l.interner.nodes l.tree)))
    ≡ with_trees l.initial.reached.keys (children_of (root_of l.interner.nodes l.tree))
