-- The order of nodes is a total order.
use Rattle.std.specs.Cmp.{IsTotalOrder, then_total, on_total, nat_cmp_total, bool_cmp_total}
use Rattle.std.specs.Cmp.Lexicographic.{lists_total, nat_list_cmp_total}
use Rattle.std.specs.declared.cmp.Ordering.{Ordering}
use Rattle.version_ranges.specs.OrderLaws.{boundaries_total}
use Rattle.pep440_version.specs.OrderLaws.{version_cmp_total}
use Rattle.pep508_tree.specs.Nodes.{tree_cmp, branch_cmp, node_cmp, node_place, version_branches}
use Rattle.pep508_tree.specs.Nodes.{text_branches, first_child, second_child}
use Rattle.pep508_tree.specs.Tags.{node_tag, tagged_cmp}

pub trees_total : IsTotalOrder tree_cmp
trees_total = then_total (on_total (λ tree. tree.place) nat_cmp_total)
    (on_total (λ tree. tree.negated) bool_cmp_total)

pub branches_total : {T : Type 0} {cmp : T → T → Ordering} → IsTotalOrder cmp → IsTotalOrder (branch_cmp cmp)
branches_total {cmp = cmp} total =
    then_total (on_total (λ branch. branch.boundary) (boundaries_total cmp total))
    (on_total (λ branch. branch.child) trees_total)

pub nodes_total : IsTotalOrder node_cmp
unfolding node_cmp
nodes_total =
    then_total (on_total first_child trees_total)
    (then_total (on_total second_child trees_total)
    (then_total (on_total node_place nat_list_cmp_total)
    (then_total (on_total version_branches (lists_total (branches_total version_cmp_total)))
    (on_total text_branches (lists_total (branches_total nat_list_cmp_total))))))

pub tagged_total : IsTotalOrder tagged_cmp
unfolding tagged_cmp
tagged_total = then_total (on_total node_tag nat_cmp_total) nodes_total
