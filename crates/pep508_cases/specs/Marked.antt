-- Diagrams whose leaves are sets of trees.
use Rattle.std.specs.Prelude.{◌≡◌, ℕ, ◌+◌, ◌<◌, ◌≤◌, ◌++◌, List, [], length, take, get_or}
use Rattle.std.specs.List.{AllByRecursion}
use Rattle.pep508_diagram.specs.Question.{Valuation}
use Rattle.pep508_tree.specs.Tree.{Tree}
use Rattle.pep508_tree.specs.Meaning.{NodeRecord}
use Rattle.pep508_leaf_diagram.specs.Leaves.{Stands}
use Rattle.pep508_leaf_diagram.specs.Pairing.{IsDiagram, leaf_in}
use Rattle.pep508_cases.specs.declared.set_diagram.Marked.{Marked}
use Rattle.pep508_cases.specs.Cases.{Marks, marks_of}

-- the set at a place, of which none is empty
abbrev pub set_at : List Marks → ℕ → Marks
set_at sets place = get_or sets place []

-- a set with one of others behind it
abbrev pub united : List Marks → List Marks → ℕ × ℕ → Marks
united sets others places = set_at sets places.0 ++ set_at others places.1

-- a diagram whose leaves are the sets of the trees that hold where they are reached
pub record IsMarked (nodes : List NodeRecord) (trees : List Tree) (m : Marked) : Type 0 where
  pub diagram : IsDiagram nodes m.diagram
  pub count : length m.sets.items ≡ m.diagram.leaves
  pub marks : (v : Valuation) →
      set_at m.sets.items (leaf_in nodes m.diagram m.diagram.root v) ≡ marks_of nodes trees v

-- no set has more marks than there are trees
abbrev pub AreShort : Marked → Type 0
AreShort m = AllByRecursion (λ set. length set ≤ m.count) m.sets.items

-- its root is a leaf or a node
abbrev pub IsRooted : Marked → Type 0
IsRooted m = Stands m.diagram.leaves (length m.diagram.nodes.items) m.diagram.root

-- the sets of some of the trees behind those of a diagram too, and of how many
pub record IsFurther (nodes : List NodeRecord) (m : Marked) (trees : List Tree) (all : Marked) (count : ℕ)
    : Type 0 where
  pub some : 0 < count
  pub most : count ≤ length trees
  pub marked : (xs : List Tree) → IsMarked nodes xs m → IsMarked nodes (xs ++ take count trees) all
  pub rooted : (xs : List Tree) → IsMarked nodes xs m → IsRooted all
  pub short : AreShort all
  pub count_is : all.count ≡ m.count + count
