use Rattle.std.proofs.Common.{◌≡◌, drop}
use Rattle.std.specs.Cmp.Lexicographic.{slice_cmp}
use Rattle.std.specs.List.{AllByRecursion}
use Rattle.pep508_tree_ref.specs.Ties.{AreTied}
use Rattle.pep508_tree_ref.specs.Sides.{root_sides, side_cmp}
use Rattle.pep508_tree_ref.proofs.tree_order.+cmp_beside.Given as goal

abbrev pub decreases-cmp_beside : goal.decreases-cmp_beside
decreases-cmp_beside l = l.tree.place

abbrev pub invariant-loop-index : goal.invariant-loop-index
invariant-loop-index l =
    (slice_cmp side_cmp (root_sides l.interner.nodes l.tree) (root_sides l.other_interner.nodes l.other)
    ≡ slice_cmp side_cmp (drop l.index (root_sides l.interner.nodes l.tree))
    (drop l.index (root_sides l.other_interner.nodes l.other)))
    × AllByRecursion (AreTied l.interner.nodes l.other_interner.nodes) l.known.keys
