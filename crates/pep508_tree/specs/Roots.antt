-- The root of a tree.
use Rattle.std.specs.Prelude.{◌≡◌, ◌==◌, ◌-◌, ◌<◌, Bool, not, if◌then◌else◌, List, Option, Some, None}
use Rattle.pep508_diagram.specs.Question.{Valuation}
use Rattle.pep508_tree.specs.declared.root.TreeNode.{TreeNode}
use Rattle.pep508_tree.specs.declared.root.TreeNode.TheVariants as lent
use Rattle.pep508_tree.specs.Tree.{Tree}
use Rattle.pep508_tree.specs.Meaning.{NodeRecord, Versions, Texts, Flagged, holds, IsTree}
use Rattle.pep508_tree.specs.Nodes.{AllChildren, IsRising, ChildrenDiffer, HasBoundary, Above, chosen}
use Rattle.pep508_tree.specs.Nodes.{node_at, node_place, first_place, signed}

-- the node at the tree's place, with the tree's negation applied to its children; a constant has none
abbrev pub root_of : List NodeRecord → Tree → Option NodeRecord
root_of nodes tree =
    if tree.place == 0 then None else Some (signed tree.negated (node_at nodes (tree.place - 1)))

-- a borrowed node as a record
abbrev pub shown : TreeNode → Option NodeRecord
shown (lent.Constant truth) = None
shown (lent.Versions key children) =
    Some (signed children.negated (Versions key children.first children.later.now))
shown (lent.Texts key children) =
    Some (signed children.negated (Texts key children.first children.later.now))
shown (lent.Flagged flag set unset) = Some (Flagged flag.now set unset)

-- a borrowed constant meets the condition
abbrev pub IfConstant : TreeNode → (Bool → Type 0) → Type 0
IfConstant (lent.Constant truth) P = P truth
IfConstant (lent.Versions key children) P = Unit {0}
IfConstant (lent.Texts key children) P = Unit {0}
IfConstant (lent.Flagged flag set unset) P = Unit {0}

-- the tree always holds, or never
pub record IsConstant (nodes : List NodeRecord) (tree : Tree) (truth : Bool) : Type 0 where
  pub place_is : tree.place ≡ 0
  pub sign_is : truth ≡ not tree.negated
  pub holds_is : (v : Valuation) → holds nodes tree v ≡ truth

-- what is known of the node at a tree's root: its children are trees that were made earlier and test later
-- variables only, and the tree holds where the child at the valuation does
pub record IsRoot (nodes : List NodeRecord) (tree : Tree) (node : NodeRecord) : Type 0 where
  pub made : AllChildren (IsTree nodes) node
  pub falls : AllChildren (λ child. child.place < tree.place) node
  pub above : AllChildren (Above nodes (node_place node)) node
  pub place_is : node_place node ≡ first_place nodes tree
  pub rises : IsRising node
  pub differ : ChildrenDiffer node
  pub wide : HasBoundary node
  pub holds_is : (v : Valuation) → holds nodes tree v ≡ holds nodes (chosen node v) v
