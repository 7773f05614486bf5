-- Steps down a tree, and the children that are gone over.
use Rattle.std.specs.Prelude.{◌≡◌, ℕ, ◌<◌, Bool, List, [], ◌∷◌, Option, Some, None}
use Rattle.std.specs.BTreeSet.{insert_key}
use Rattle.std.specs.declared.ops.ControlFlow.{ControlFlow}
use Rattle.std.specs.declared.ops.ControlFlow.TheVariants.{Continue, Break}
use Rattle.pep508_diagram.specs.declared.variable.Flag.TheVariants.{In, Contains, Extra, Arbitrary}
use Rattle.pep508_diagram.specs.Question.{Valuation}
use Rattle.pep508_tree.specs.Tree.{Tree}
use Rattle.pep508_tree.specs.Meaning.{NodeRecord, Versions, Texts, Flagged, holds, IsTree}
use Rattle.pep508_tree.specs.Joining.{children}
use Rattle.pep508_tree.specs.Nodes.{chosen, tree_cmp}
use Rattle.pep508_tree.specs.Roots.{root_of, IsRoot}
use Rattle.pep508_evaluation.specs.Valuations.{HasJust}

-- the child of a tree's root at the valuation, which was made earlier and holds there where the tree does
pub record GoesDown (nodes : List NodeRecord) (tree : Tree) (v : Valuation) (next : Tree) : Type 0 where
  pub root : NodeRecord
  pub root_is : root_of nodes tree ≡ Some root
  pub known : IsRoot nodes tree root
  pub chosen_is : next ≡ chosen root v
  pub made : IsTree nodes next
  pub falls : next.place < tree.place
  pub same : holds nodes tree v ≡ holds nodes next v

-- the truth of a tree without a node, or a tree that has the same truth
abbrev pub Answers : List NodeRecord → Tree → Valuation → ControlFlow Bool Tree → Type 0
Answers nodes tree v (Break truth) = (holds nodes tree v ≡ truth) × (root_of nodes tree ≡ None)
Answers nodes tree v (Continue next) = GoesDown nodes tree v next

-- the node does not test an extra
abbrev pub AsksNoExtra : NodeRecord → Type 0
AsksNoExtra (Versions key first later) = Unit {0}
AsksNoExtra (Texts key first later) = Unit {0}
AsksNoExtra (Flagged (In key text) set unset) = Unit {0}
AsksNoExtra (Flagged (Contains key text) set unset) = Unit {0}
AsksNoExtra (Flagged (Extra name) set unset) = ⊥
AsksNoExtra (Flagged (Arbitrary text) set unset) = ⊥

-- a tree that was made earlier holds where the tree does, at all valuations with just these extras
pub record GoesPast (nodes : List NodeRecord) (extras : List (List ℕ)) (tree next : Tree) : Type 0 where
  pub made : IsTree nodes next
  pub falls : next.place < tree.place
  pub same : (v : Valuation) → HasJust extras v → holds nodes tree v ≡ holds nodes next v

-- the children of a node, in order; a constant has none
abbrev pub children_of : Option NodeRecord → List Tree
children_of None = []
children_of (Some node) = children node

-- with further trees, in the order in which they were made
abbrev pub with_trees : List Tree → List Tree → List Tree
with_trees reached [] = reached
with_trees reached (tree ∷ trees) = with_trees (insert_key tree_cmp reached tree) trees
