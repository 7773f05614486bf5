-- The order of pairs of trees.
use Rattle.std.specs.Prelude.{ℕ, ◌+◌}
use Rattle.std.specs.Cmp.{IsTotalOrder, then_total, on_total, nat_cmp_total}
use Rattle.std.specs.Ordering.{on, then_cmp, nat_cmp}
use Rattle.std.specs.declared.cmp.Ordering.{Ordering}
use Rattle.pep508_tree.specs.declared.tree_pair.TreePair.{TreePair}
use Rattle.pep508_tree.specs.Nodes.{tree_cmp}
use Rattle.pep508_tree.specs.NodeLaws.{trees_total}

-- the sum of the two places, which is less for the children of two trees than for these
abbrev pub places : TreePair → ℕ
places pair = pair.first.place + pair.second.place

abbrev pub pair_cmp : TreePair → TreePair → Ordering
pair_cmp =
    then_cmp (on places nat_cmp)
    (then_cmp (on (λ pair. pair.first) tree_cmp) (on (λ pair. pair.second) tree_cmp))

pub pairs_total : IsTotalOrder pair_cmp
pairs_total =
    then_total (on_total places nat_cmp_total)
    (then_total (on_total (λ pair. pair.first) trees_total)
    (on_total (λ pair. pair.second) trees_total))
