-- What diagrams mean whose leaves are numbers: the leaf that is reached under a valuation.
use Rattle.std.specs.Prelude.{◌≡◌, ℕ, ◌<◌, cond, if◌then◌else◌, ◌==◌, List}
use Rattle.std.specs.Prelude.{[], ◌∷◌, ◌++◌, length, map, get_or}
use Rattle.std.specs.declared.cmp.Ordering.TheVariants.{Less}
use Rattle.pep508_diagram.specs.declared.branch.Branch.{Branch}
use Rattle.pep508_diagram.specs.declared.variable.VersionVariable.TheVariants.{ImplementationVersion}
use Rattle.pep508_diagram.specs.Text.{text_cmp}
use Rattle.pep508_diagram.specs.Question.{Valuation}
use Rattle.pep508_tree.specs.Tree.{Tree}
use Rattle.pep508_tree.specs.Meaning.{NodeOf, NodeRecord, Versions, Texts, Flagged, holds, IsTree}
use Rattle.pep508_tree.specs.Nodes.{AllChildren, IsRising, Above, chosen, node_place}
use Rattle.pep508_leaf_diagram.specs.declared.child.Child.{Child}
use Rattle.pep508_leaf_diagram.specs.declared.child.Child.TheVariants.{Leaf, Node, Whole}

-- what stands for a tree
abbrev pub child_of : Tree → Child
child_of tree = if tree.place == 0 then cond tree.negated (Leaf 0) (Leaf 1) else Whole tree

abbrev pub child_branch : {T : Type 0} → Branch T Tree → Branch T Child
child_branch branch = record { boundary = branch.boundary; child = child_of branch.child }

-- the node with what stands for each of its trees
abbrev pub with_children : NodeRecord → NodeOf Child
with_children (Versions key first later) = Versions key (child_of first) (map child_branch later)
with_children (Texts key first later) = Texts key (child_of first) (map child_branch later)
with_children (Flagged flag set unset) = Flagged flag (child_of set) (child_of unset)

-- ---- the leaf that is reached

-- the leaf below a child, from those that nodes reach, over the nodes of an interner
abbrev pub leaf_below : List NodeRecord → List ℕ → Valuation → Child → ℕ
leaf_below inner found v (Leaf number) = number
leaf_below inner found v (Node place) = get_or found place 0
leaf_below inner found v (Whole tree) = cond (holds inner tree v) 1 0

-- the leaves that nodes reach, behind those of earlier nodes
abbrev pub fill_leaves : List NodeRecord → Valuation → List ℕ → List (NodeOf Child) → List ℕ
fill_leaves inner v found [] = found
fill_leaves inner v found (node ∷ nodes) =
    fill_leaves inner v (found ++ leaf_below inner found v (chosen node v) ∷ []) nodes

unfoldable pub leaves_of : List NodeRecord → List (NodeOf Child) → Valuation → List ℕ
leaves_of inner nodes v = fill_leaves inner v [] nodes

-- the leaf that is reached under a valuation
abbrev pub leaf_at : List NodeRecord → List (NodeOf Child) → Child → Valuation → ℕ
leaf_at inner nodes child v = leaf_below inner (leaves_of inner nodes v) v child

-- ---- diagrams

abbrev pub no_node : NodeOf Child
no_node = Versions ImplementationVersion (Leaf 0) []

abbrev pub child_node : List (NodeOf Child) → ℕ → NodeOf Child
child_node nodes k = get_or nodes k no_node

-- a leaf below a count, or one of so many nodes
abbrev pub Stands : ℕ → ℕ → Child → Type 0
Stands leaves count (Leaf number) = number < leaves
Stands leaves count (Node place) = place < count
Stands leaves count (Whole tree) = ⊥

-- or a tree, where there are two leaves
abbrev pub IsMade : List NodeRecord → ℕ → ℕ → Child → Type 0
IsMade inner leaves count (Leaf number) = number < leaves
IsMade inner leaves count (Node place) = place < count
IsMade inner leaves count (Whole tree) = IsTree inner tree × (1 < leaves)

-- the child asks first of a variable behind the place
abbrev pub IsAbove : List NodeRecord → List (NodeOf Child) → List ℕ → Child → Type 0
IsAbove inner nodes place (Leaf number) = Unit {0}
IsAbove inner nodes place (Node k) = text_cmp place (node_place (child_node nodes k)) ≡ Less
IsAbove inner nodes place (Whole tree) = Above inner place tree

-- what may be put behind nodes
pub record IsFit (inner : List NodeRecord) (leaves : ℕ) (nodes : List (NodeOf Child)) (count : ℕ)
    (node : NodeOf Child) : Type 0 where
  pub rises : IsRising node
  pub stands : AllChildren (Stands leaves count) node
  pub above : AllChildren (IsAbove inner nodes (node_place node)) node

-- what stands in a diagram at a place
pub record IsSound (inner : List NodeRecord) (leaves : ℕ) (nodes : List (NodeOf Child)) (place : ℕ)
    (node : NodeOf Child) : Type 0 where
  pub fits : IsFit inner leaves nodes place node
  pub reaches : (v : Valuation) → leaf_at inner nodes (Node place) v ≡ leaf_at inner nodes (chosen node v) v

-- the nodes of a diagram of so many leaves
abbrev pub IsGraph : List NodeRecord → ℕ → List (NodeOf Child) → Type 0
IsGraph inner leaves nodes = (k : ℕ) → k < length nodes → IsSound inner leaves nodes k (child_node nodes k)

-- ---- what calls answer

-- what is asked first where a child stands
pub record IsOpened (inner : List NodeRecord) (leaves : ℕ) (nodes : List (NodeOf Child)) (child : Child)
    (node : NodeOf Child) : Type 0 where
  pub rises : IsRising node
  pub made : AllChildren (IsMade inner leaves (length nodes)) node
  pub above : AllChildren (IsAbove inner nodes (node_place node)) node
  pub first : (place : List ℕ) → IsAbove inner nodes place child → text_cmp place (node_place node) ≡ Less
  pub behind : (place : List ℕ) → text_cmp place (node_place node) ≡ Less → IsAbove inner nodes place child
  pub reaches : (v : Valuation) → leaf_at inner nodes child v ≡ leaf_at inner nodes (chosen node v) v

-- nodes with one more, or the only child of one
pub record IsPut (inner : List NodeRecord) (leaves : ℕ) (old new : List (NodeOf Child)) (node : NodeOf Child)
    (child : Child) : Type 0 where
  pub graph : IsGraph inner leaves new
  pub stands : Stands leaves (length new) child
  pub above : (place : List ℕ) → text_cmp place (node_place node) ≡ Less → IsAbove inner new place child
  pub reaches : (v : Valuation) → leaf_at inner new child v ≡ leaf_at inner old (chosen node v) v
  pub keeps : (more : List (NodeOf Child)) × (new ≡ old ++ more)
