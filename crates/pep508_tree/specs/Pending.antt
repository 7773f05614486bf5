-- Conjunctions that wait for those of the pairs of their trees' children.
use Rattle.std.specs.Prelude.{◌≡◌, ◌⊎◌, ◌<◌, false, List, None, length, take}
use Rattle.std.specs.Ordering.{is_gt}
use Rattle.std.specs.BTreeMap.{BTreeMap, get}
use Rattle.pep508_diagram.specs.Text.{text_cmp}
use Rattle.pep508_tree.specs.declared.tree_pair.TreePair.{TreePair}
use Rattle.pep508_tree.specs.declared.conjunction_walk.Pending.{Pending}
use Rattle.pep508_tree.specs.Tree.{Tree}
use Rattle.pep508_tree.specs.Meaning.{NodeRecord, IsTree}
use Rattle.pep508_tree.specs.Forms.{record_of}
use Rattle.pep508_tree.specs.Nodes.{Splits, first_place}
use Rattle.pep508_tree.specs.Joining.{children}
use Rattle.pep508_tree.specs.PairOrder.{pair_cmp}
use Rattle.pep508_tree.specs.Conjunctions.{ArePairs, Meet}

-- the pair has two trees, in either order
abbrev pub IsEither : Tree → Tree → TreePair → Type 0
IsEither a b asked =
    ◌≡◌ {A = Tree × Tree} (asked.first, asked.second) (a, b)
    ⊎ ◌≡◌ {A = Tree × Tree} (asked.first, asked.second) (b, a)

-- two trees that are not constant, sorted by their first variables
pub record AreInOrder (nodes : List NodeRecord) (asked : TreePair) : Type 0 where
  pub first : IsTree nodes asked.first
  pub second : IsTree nodes asked.second
  pub first_node : 0 < asked.first.place
  pub second_node : 0 < asked.second.place
  pub ordered : is_gt (text_cmp (first_place nodes asked.first) (first_place nodes asked.second)) ≡ false

-- two such trees whose conjunction is not known
pub record IsAsked (nodes : List NodeRecord) (known : BTreeMap TreePair Tree) (asked : TreePair)
    : Type 0 where
  pub trees : AreInOrder nodes asked
  pub unknown : get pair_cmp known asked ≡ None

-- a waiting conjunction has the pairs of its trees' children, and the conjunctions of the first of them
pub record IsPending (nodes : List NodeRecord) (pending : Pending) : Type 0 where
  pub first : IsTree nodes pending.asked.first
  pub second : IsTree nodes pending.asked.second
  pub splits : Splits nodes pending.asked.first pending.asked.second (record_of pending.pairs)
  pub children_are : pending.children.items ≡ children (record_of pending.pairs)
  pub met : Meet (ArePairs nodes nodes pending.asked.first pending.asked.second)
      (take (length pending.trees.items) pending.children.items) pending.trees.items
