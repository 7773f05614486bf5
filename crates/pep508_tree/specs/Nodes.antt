-- Nodes: the variable, the child for each of its values, and the order of nodes.
use Rattle.std.specs.Prelude.{◌≡◌, ◌⊎◌, ℕ, ◌≤◌, ◌<◌, ◌+◌, ◌-◌, Bool, true, false, cond, List, [], ◌∷◌, length}
use Rattle.std.specs.Prelude.{map}
use Rattle.std.specs.declared.cmp.Ordering.{Ordering}
use Rattle.std.specs.declared.cmp.Ordering.TheVariants.{Less, Equal}
use Rattle.std.specs.Ordering.{on, then_cmp, nat_cmp, bool_cmp}
use Rattle.std.specs.Cmp.Lexicographic.{slice_cmp}
use Rattle.std.proofs.Common.{get_or}
use Rattle.version_ranges.specs.Boundaries.{boundary_cmp}
use Rattle.version_ranges.specs.Turns.{flips}
use Rattle.pep440_text.specs.Record.{VersionRecord}
use Rattle.pep440_version.specs.Order.{version_cmp}
use Rattle.pep508_diagram.specs.declared.branch.Branch.{Branch}
use Rattle.pep508_diagram.specs.declared.variable.VersionVariable.TheVariants.{ImplementationVersion}
use Rattle.pep508_diagram.specs.Text.{text_cmp}
use Rattle.pep508_diagram.specs.Branches.{RisingBranches, branch_at, AllBranches, NeighboursDiffer}
use Rattle.pep508_diagram.specs.Chains.{IsChild}
use Rattle.pep508_diagram.specs.Shortened.{shortened_branch, AllShort}
use Rattle.pep508_diagram.specs.Question.{Valuation, version_rank, text_rank, flag_rank, flag_text}
use Rattle.pep508_tree.specs.Tree.{Tree, always, negation}
use Rattle.pep508_tree.specs.Meaning.{NodeOf, NodeRecord, Versions, Texts, Flagged, holds, IsTree}

-- the tree, with its leaves negated where the flag is set
abbrev pub turned : Bool → Tree → Tree
turned turns tree = record tree { negated = flips turns tree.negated }

-- ---- the variable of a node

abbrev pub node_rank : {C : Type 0} → NodeOf C → ℕ
node_rank (Versions key first later) = version_rank key
node_rank (Texts key first later) = text_rank key
node_rank (Flagged flag set unset) = flag_rank flag

abbrev pub node_text : {C : Type 0} → NodeOf C → List ℕ
node_text (Versions key first later) = []
node_text (Texts key first later) = []
node_text (Flagged flag set unset) = flag_text flag

-- the place of a node's variable among the variables
abbrev pub node_place : {C : Type 0} → NodeOf C → List ℕ
node_place node = node_rank node ∷ node_text node

-- ---- the children of a node

-- the child at a valuation
abbrev pub chosen : {C : Type 0} → NodeOf C → Valuation → C
chosen (Versions key first later) v = branch_at version_cmp first later (v.version key)
chosen (Texts key first later) v = branch_at text_cmp first later (v.text key)
chosen (Flagged flag set unset) v = cond (v.flag flag) set unset

abbrev pub AllChildren : {C : Type 0} → (C → Type 0) → NodeOf C → Type 0
AllChildren P (Versions key first later) = AllBranches P first later
AllChildren P (Texts key first later) = AllBranches P first later
AllChildren P (Flagged flag set unset) = P set × P unset

abbrev pub IsChildIn : {C : Type 0} → C → NodeOf C → Type 0
IsChildIn child (Versions key first later) = IsChild child first later
IsChildIn child (Texts key first later) = IsChild child first later
IsChildIn child (Flagged flag set unset) = (child ≡ set) ⊎ (child ≡ unset)

-- the endpoints rise
abbrev pub IsRising : {C : Type 0} → NodeOf C → Type 0
IsRising (Versions key first later) = RisingBranches version_cmp later
IsRising (Texts key first later) = RisingBranches text_cmp later
IsRising (Flagged flag set unset) = Unit {0}

-- neighbouring children differ
abbrev pub ChildrenDiffer : {C : Type 0} → NodeOf C → Type 0
ChildrenDiffer (Versions key first later) = NeighboursDiffer first later
ChildrenDiffer (Texts key first later) = NeighboursDiffer first later
ChildrenDiffer (Flagged flag set unset) = set ≡ unset → ⊥

-- neighbouring children between endpoints differ
abbrev pub IsJoined : {C : Type 0} → NodeOf C → Type 0
IsJoined (Versions key first later) = NeighboursDiffer first later
IsJoined (Texts key first later) = NeighboursDiffer first later
IsJoined (Flagged flag set unset) = Unit {0}

-- each endpoint of versions is at a shortest spelling
abbrev pub HasShortBounds : {C : Type 0} → NodeOf C → Type 0
HasShortBounds (Versions key first later) = AllShort later
HasShortBounds (Texts key first later) = Unit {0}
HasShortBounds (Flagged flag set unset) = Unit {0}

-- there is more than one child
abbrev pub HasBoundary : {C : Type 0} → NodeOf C → Type 0
HasBoundary (Versions key first later) = later ≡ [] → ⊥
HasBoundary (Texts key first later) = later ≡ [] → ⊥
HasBoundary (Flagged flag set unset) = Unit {0}

-- the first child, and the set one of a flag
abbrev pub first_child : {C : Type 0} → NodeOf C → C
first_child (Versions key first later) = first
first_child (Texts key first later) = first
first_child (Flagged flag set unset) = set

-- the unset child of a flag, and else the first one
abbrev pub second_child : {C : Type 0} → NodeOf C → C
second_child (Versions key first later) = first
second_child (Texts key first later) = first
second_child (Flagged flag set unset) = unset

abbrev pub version_branches : {C : Type 0} → NodeOf C → List (Branch VersionRecord C)
version_branches (Versions key first later) = later
version_branches (Texts key first later) = []
version_branches (Flagged flag set unset) = []

abbrev pub text_branches : {C : Type 0} → NodeOf C → List (Branch (List ℕ) C)
text_branches (Versions key first later) = []
text_branches (Texts key first later) = later
text_branches (Flagged flag set unset) = []

abbrev pub turned_branch : {T : Type 0} → Branch T Tree → Branch T Tree
turned_branch branch = record branch { child = negation branch.child }

-- the node with each child negated
abbrev pub turned_node : NodeRecord → NodeRecord
turned_node (Versions key first later) = Versions key (negation first) (map turned_branch later)
turned_node (Texts key first later) = Texts key (negation first) (map turned_branch later)
turned_node (Flagged flag set unset) = Flagged flag (negation set) (negation unset)

-- the node with each endpoint of versions at its shortest spelling
abbrev pub short_node : {C : Type 0} → NodeOf C → NodeOf C
short_node (Versions key first later) = Versions key first (map shortened_branch later)
short_node (Texts key first later) = Texts key first later
short_node (Flagged flag set unset) = Flagged flag set unset

-- a node of the first one's variable, with the children of another one
abbrev pub counterpart : NodeRecord → Tree → List (Branch VersionRecord Tree) → List (Branch (List ℕ) Tree) →
    Tree → NodeRecord
counterpart (Versions key f l) first versions texts second = Versions key first versions
counterpart (Texts key f l) first versions texts second = Texts key first texts
counterpart (Flagged flag s u) first versions texts second = Flagged flag first second

-- a node of the pairs of the children of two nodes of one variable
pub record Paired (a b : NodeRecord) (pairs : NodeOf (Tree × Tree)) : Type 0 where
  pub place_is : node_place pairs ≡ node_place a
  pub rises : IsRising pairs
  pub chosen_is : (v : Valuation) → chosen pairs v ≡ (chosen a v, chosen b v)
  pub children : AllChildren (λ pair. IsChildIn pair.0 a × IsChildIn pair.1 b) pairs

-- ---- the order of nodes

abbrev pub tree_cmp : Tree → Tree → Ordering
tree_cmp = then_cmp (on (λ tree. tree.place) nat_cmp) (on (λ tree. tree.negated) bool_cmp)

abbrev pub branch_cmp : {T : Type 0} → (T → T → Ordering) → Branch T Tree → Branch T Tree → Ordering
branch_cmp cmp =
    then_cmp (on (λ branch. branch.boundary) (boundary_cmp cmp)) (on (λ branch. branch.child) tree_cmp)

-- by the first and the second child, which differ for most nodes, then by the variable and the branches
unfoldable pub node_cmp : NodeRecord → NodeRecord → Ordering
node_cmp =
    then_cmp (on first_child tree_cmp)
    (then_cmp (on second_child tree_cmp)
    (then_cmp (on node_place text_cmp)
    (then_cmp (on version_branches (slice_cmp (branch_cmp version_cmp)))
    (on text_branches (slice_cmp (branch_cmp text_cmp))))))

-- ---- nodes of an interner

abbrev pub no_node : NodeRecord
no_node = Versions ImplementationVersion always []

abbrev pub node_at : List NodeRecord → ℕ → NodeRecord
node_at nodes k = get_or nodes k no_node

-- the place of a tree's first variable, where it has a node
abbrev pub first_place : List NodeRecord → Tree → List ℕ
first_place nodes tree = node_place (node_at nodes (tree.place - 1))

-- the tree first tests a variable after the place
unfoldable pub Above : List NodeRecord → List ℕ → Tree → Type 0
Above nodes place tree =
    (k : ℕ) → tree.place ≡ k + 1 → text_cmp place (node_place (node_at nodes k)) ≡ Less

-- a node that is allowed at a place of the interner
pub record IsSoundNode (nodes : List NodeRecord) (place : ℕ) (node : NodeRecord) : Type 0 where
  pub before : AllChildren (λ child. child.place ≤ place) node
  pub above : AllChildren (Above nodes (node_place node)) node
  pub rises : IsRising node
  pub differ : ChildrenDiffer node
  pub wide : HasBoundary node
  pub plain : (first_child node).negated ≡ false
  pub short : HasShortBounds node

-- what holds of all nodes of an interner
pub record AreSound (nodes : List NodeRecord) : Type 0 where
  pub each : (k : ℕ) → k < length nodes → IsSoundNode nodes k (node_at nodes k)
  pub once : (i j : ℕ) → i < length nodes → j < length nodes →
      node_cmp (node_at nodes i) (node_at nodes j) ≡ Equal → i ≡ j

-- ---- results of the calls

-- two trees by their first variable
pub record Splits (nodes : List NodeRecord) (a b : Tree) (pairs : NodeOf (Tree × Tree)) : Type 0 where
  pub rises : IsRising pairs
  pub made : AllChildren (λ pair. IsTree nodes pair.0 × IsTree nodes pair.1) pairs
  pub falls : AllChildren (λ pair. pair.0.place + pair.1.place < a.place + b.place) pairs
  pub above : AllChildren (λ pair. Above nodes (node_place pairs) pair.0 × Above nodes (node_place pairs)
      pair.1)
      pairs
  pub first_is : (v : Valuation) → holds nodes a v ≡ holds nodes (turned a.negated (chosen pairs v).0) v
  pub second_is : (v : Valuation) → holds nodes b v ≡ holds nodes (turned b.negated (chosen pairs v).1) v
  pub first : (place : List ℕ) → Above nodes place a → Above nodes place b →
      text_cmp place (node_place pairs) ≡ Less

-- the tree of a node
pub record Made (old new : List NodeRecord) (node : NodeRecord) (tree : Tree) : Type 0 where
  pub made : IsTree new tree
  pub truth_is : (v : Valuation) → holds new tree v ≡ holds old (chosen node v) v
  pub above : (place : List ℕ) → text_cmp place (node_place node) ≡ Less → Above new place tree

-- ---- nodes that are stored

-- the node, with each child negated where the flag is set
abbrev pub signed : Bool → NodeRecord → NodeRecord
signed true node = turned_node node
signed false node = node

-- the child is the same for each value
abbrev pub IsAlone : {C : Type 0} → NodeOf C → Type 0
IsAlone (Versions key first later) = later ≡ []
IsAlone (Texts key first later) = later ≡ []
IsAlone (Flagged flag set unset) = set ≡ unset

-- a node is at a place, up to the spelling of equal versions
pub record IsPlaced (nodes : List NodeRecord) (node : NodeRecord) (place : ℕ) : Type 0 where
  pub index : ℕ
  pub place_is : place ≡ index + 1
  pub inside : index < length nodes
  pub same : node_cmp (node_at nodes index) node ≡ Equal
  pub sound : AreSound nodes
