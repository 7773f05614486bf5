-- Diagrams in which but some leaves are told apart, and where leaves are reached, as marker trees.
use Rattle.std.specs.Prelude.{◌≡◌, ℕ, ◌+◌, ◌&&◌, ◌++◌, ◌==◌, nat_le, nat_lt}
use Rattle.std.specs.Prelude.{Bool, cond, List, [], ◌∷◌, length, get_or}
use Rattle.std.specs.declared.cmp.Ordering.TheVariants.{Less}
use Rattle.pep508_diagram.specs.Question.{Valuation}
use Rattle.pep508_tree.specs.Tree.{Tree, constant, never}
use Rattle.pep508_tree.specs.Meaning.{NodeOf, NodeRecord, IsTree, holds}
use Rattle.pep508_tree.specs.Nodes.{Above}
use Rattle.pep508_tree.specs.Truths.{IsTreeOf}
use Rattle.pep508_leaf_diagram.specs.declared.child.Child.{Child}
use Rattle.pep508_leaf_diagram.specs.declared.child.Child.TheVariants.{Leaf, Node, Whole}
use Rattle.pep508_leaf_diagram.specs.declared.narrow.Leaves.{Leaves}
use Rattle.pep508_leaf_diagram.specs.declared.narrow.Part.{Part}
use Rattle.pep508_leaf_diagram.specs.Leaves.{leaf_at, Stands, IsAbove, IsGraph}

-- the number of a leaf where only some are told apart
abbrev pub narrow_leaf : Leaves → ℕ → ℕ
narrow_leaf leaves n = cond (nat_le leaves.from n && nat_lt n leaves.to) n leaves.other

-- what stands for a child then, from what stands for nodes
abbrev pub narrow_of : Leaves → List Child → Child → Child
narrow_of leaves found (Leaf n) = Leaf (narrow_leaf leaves n)
narrow_of leaves found (Node k) = get_or found k (Leaf leaves.other)
narrow_of leaves found (Whole t) = Leaf leaves.other

-- the part of a diagram of so many leaves in which the other leaves are one
pub record IsPart (count : ℕ) (nodes : List (NodeOf Child)) (root : Child) (leaves : Leaves) (part : Part)
    : Type 0 where
  pub graph : IsGraph [] count part.nodes.items
  pub stands : Stands count (length part.nodes.items) part.root
  pub leaf : (v : Valuation) →
      leaf_at [] part.nodes.items part.root v ≡ narrow_leaf leaves (leaf_at [] nodes root v)

-- the tree that holds where a leaf is reached below a child, from those of nodes
abbrev pub tree_below : List Tree → ℕ → Child → Tree
tree_below trees leaf (Leaf n) = constant (n == leaf)
tree_below trees leaf (Node k) = get_or trees k never
tree_below trees leaf (Whole t) = never

-- whether a leaf is reached
abbrev pub leaf_is : (Valuation → ℕ) → ℕ → Valuation → Bool
leaf_is reached leaf v = reached v == leaf

-- trees of the leaves from a number on, one for each, by the leaf that is reached
abbrev pub AreLeafTrees : List NodeRecord → (Valuation → ℕ) → ℕ → List Tree → Type 0
AreLeafTrees nodes reached from [] = Unit {0}
AreLeafTrees nodes reached from (tree ∷ trees) =
    IsTreeOf nodes (leaf_is reached from) tree × AreLeafTrees nodes reached (from + 1) trees

-- trees of the leaves from a number up to another were put behind others
pub record ArePushed (nodes : List NodeRecord) (reached : Valuation → ℕ) (from to : ℕ) (old new : List Tree)
    : Type 0 where
  pub more : List Tree
  pub new_is : new ≡ old ++ more
  pub count : from + length more ≡ to
  pub each : AreLeafTrees nodes reached from more
