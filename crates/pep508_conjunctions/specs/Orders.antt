-- Trees with the places of the variables that they test first.
use Rattle.std.specs.Prelude.{ℕ, List, slice_index_or}
use Rattle.pep508_tree.specs.Tree.{Tree, always}
use Rattle.pep508_conjunctions.specs.declared.variable_order.Placed.{Placed}

-- the tree of an index; the one that always holds where there is none
abbrev pub tree_at : List Tree → ℕ → Tree
tree_at trees index = slice_index_or trees index always

abbrev pub indexed : List Tree → Placed → Tree
indexed trees placed = tree_at trees placed.index
