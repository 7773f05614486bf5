-- Pairs of trees with the same diagram, each in its own interner.
use Rattle.std.specs.Prelude.{◌≡◌, ℕ, Bool, List}
use Rattle.std.specs.declared.cmp.Ordering.TheVariants.{Equal}
use Rattle.pep508_tree.specs.Meaning.{NodeRecord, diagram_of}
use Rattle.pep508_tree.specs.Tree.{Tree}
use Rattle.pep508_tree_ref.specs.TreeOrder.{diagram_cmp}

-- a tree by its place, and whether it is negated
abbrev pub Name : Type 0
Name = ℕ × Bool

abbrev pub named : Tree → Name
named tree = (tree.place, tree.negated)

abbrev pub tree_named : Name → Tree
tree_named name = record { place = name.0; negated = name.1 }

-- no order is between the two trees of these names
abbrev pub AreTied : List NodeRecord → List NodeRecord → Name × Name → Type 0
AreTied nodes others names =
    diagram_cmp (diagram_of nodes (tree_named names.0)) (diagram_of others (tree_named names.1)) ≡ Equal
