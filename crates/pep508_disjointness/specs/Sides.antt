-- The children of a tree for each value of a variable, and their pairs with those of a node.
use Rattle.std.specs.Prelude.{◌≡◌, Bool, List, map}
use Rattle.pep508_tree.specs.Tree.{Tree}
use Rattle.pep508_tree.specs.Meaning.{NodeOf, NodeRecord}
use Rattle.pep508_tree.specs.Nodes.{Paired, counterpart, signed, first_child, second_child}
use Rattle.pep508_tree.specs.Nodes.{version_branches, text_branches}
use Rattle.pep508_tree.specs.Joining.{children}
use Rattle.pep508_tree.specs.Roots.{IsRoot}
use Rattle.pep508_disjointness.specs.declared.child_pairs.Side.{Side}
use Rattle.pep508_disjointness.specs.Pairs.{turned_pair}

-- a node of the variable, with the children of the side
abbrev pub with_side : NodeRecord → Side → NodeRecord
with_side node side = counterpart node side.first side.versions.now side.texts.now side.second

-- the side has the children of a node, which with the side's negation is the tree's
pub record ShowsNode (nodes : List NodeRecord) (tree : Tree) (side : Side) : Type 0 where
  pub node : NodeRecord
  pub root : IsRoot nodes tree (signed side.negated node)
  pub first_is : side.first ≡ first_child node
  pub versions_are : side.versions.now ≡ version_branches node
  pub texts_are : side.texts.now ≡ text_branches node
  pub second_is : side.second ≡ second_child node

-- the pairs are, with negations, those of the children of a node, which with its negation is the tree's,
-- and of the side
pub record AreSidePairs (nodes : List NodeRecord) (tree : Tree) (side : Side) (pairs : List (Tree × Tree))
    : Type 0 where
  pub negated : Bool
  pub node : NodeRecord
  pub root : IsRoot nodes tree (signed negated node)
  pub plain : NodeOf (Tree × Tree)
  pub pairs_are : pairs ≡ map (turned_pair negated side.negated) (children plain)
  pub paired : Paired node (with_side node side) plain
