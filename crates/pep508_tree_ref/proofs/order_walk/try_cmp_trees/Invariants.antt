use Rattle.pep508_tree_ref.proofs.Descending.{IsDescent, work}
use Rattle.pep508_tree_ref.proofs.order_walk.try_cmp_trees.Given as goal

abbrev pub invariant-walk : goal.invariant-walk
invariant-walk l =
    IsDescent l.interner.nodes l.other_interner.nodes l.fn.tree l.fn.other l.known.keys l.above.items
    (record { tree = l.tree; other = l.other; edge = l.edge })

abbrev pub decreases-walk : goal.decreases-walk
decreases-walk l =
    work l.interner.nodes l.other_interner.nodes l.fn.tree l.fn.other l.above.items
    (record { tree = l.tree; other = l.other; edge = l.edge })
