-- Hashes of nodes, and the order of nodes by these first.
use Rattle.std.specs.Prelude.{ℕ, List, [], ◌∷◌}
use Rattle.std.specs.declared.cmp.Ordering.{Ordering}
use Rattle.std.specs.Ordering.{on, then_cmp, nat_cmp}
use Rattle.version_ranges.specs.declared.boundary.Boundary.{Boundary}
use Rattle.version_ranges.specs.declared.boundary.Boundary.TheVariants as boundary
use Rattle.pep508_diagram.specs.declared.branch.Branch.{Branch}
use Rattle.pep508_node_hash.specs.Tags.{mixed, text_tag, version_tag}
use Rattle.pep508_tree.specs.Tree.{Tree}
use Rattle.pep508_tree.specs.Meaning.{NodeRecord}
use Rattle.pep508_tree.specs.Nodes.{node_rank, node_text, first_child, second_child, node_cmp}
use Rattle.pep508_tree.specs.Nodes.{version_branches, text_branches}

-- the number of an endpoint's value
abbrev pub boundary_tag : {T : Type 0} → (T → ℕ) → Boundary T → ℕ
boundary_tag tag (boundary.At value) = tag value
boundary_tag tag (boundary.JustAbove value) = tag value

-- the number of the first endpoint and the child from it on
abbrev pub branches_tag : {T : Type 0} → (T → ℕ) → List (Branch T Tree) → ℕ
branches_tag tag [] = 0
branches_tag tag (branch ∷ later) = mixed branch.child.place (boundary_tag tag branch.boundary)

-- the number of a node
abbrev pub node_tag : NodeRecord → ℕ
node_tag node =
    mixed
    (mixed
    (mixed (mixed (mixed (text_tag (node_text node)) (node_rank node)) (first_child node).place)
    (second_child node).place)
    (branches_tag version_tag (version_branches node)))
    (branches_tag text_tag (text_branches node))

-- by the numbers, and then by the nodes
unfoldable pub tagged_cmp : NodeRecord → NodeRecord → Ordering
tagged_cmp = then_cmp (on node_tag nat_cmp) node_cmp
