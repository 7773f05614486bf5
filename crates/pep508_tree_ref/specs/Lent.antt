-- The model in contracts of a borrowed tree with its interner.
use Rattle.std.specs.Ordering.{on}
use Rattle.std.specs.Cmp.{IsTotalOrder, on_total}
use Rattle.std.specs.declared.cmp.Ordering.{Ordering}
use Rattle.pep508_tree_ref.specs.declared.tree_ref.MarkerTreeRef.{MarkerTreeRef}
use Rattle.pep508_tree_ref.specs.TreeIn.{TreeIn, tree_in_cmp}
use Rattle.pep508_tree_ref.specs.TreeOrderLaws.{trees_in_total}

-- the tree, with the interner's nodes
abbrev pub tree_in : MarkerTreeRef → TreeIn
tree_in r = record { nodes = r.interner.now.nodes; tree = r.tree }

abbrev pub tree_ref_cmp : MarkerTreeRef → MarkerTreeRef → Ordering
tree_ref_cmp = on tree_in tree_in_cmp

pub tree_refs_total : IsTotalOrder tree_ref_cmp
tree_refs_total = on_total tree_in trees_in_total
