-- The parts of a diagram that are left to write, one after another, and their bytes.
use Rattle.std.specs.Prelude.{◌≡◌, ℕ, ◌+◌, ◌*◌, ◌<◌, Bool, List, [], ◌∷◌, ◌++◌, Option, Some, None, length}
use Rattle.std.specs.Prelude.{map, reverse}
use Rattle.std.specs.List.{AllByRecursion}
use Rattle.std.proofs.Common.{drop}
use Rattle.pep508_diagram.specs.declared.branch.Branch.{Branch}
use Rattle.pep508_diagram.specs.Diagram.{Diagram, Leaf, Test, Asking}
use Rattle.pep508_diagram.specs.Question.{Question, marker}
use Rattle.pep508_tree.specs.Tree.{Tree}
use Rattle.pep508_tree.specs.Meaning.{NodeRecord, Versions, Texts, Flagged, node_diagram, diagram_of, IsTree}
use Rattle.pep508_tree.specs.Nodes.{turned, first_child}
use Rattle.pep508_tree.specs.Roots.{root_of}
use Rattle.pep508_marker_key.specs.declared.key_walk.Step.{Step}
use Rattle.pep508_marker_key.specs.declared.key_walk.Step.TheVariants as step
use Rattle.pep508_marker_key.specs.Walk.{Written, leaf_byte, both, written}
use Rattle.pep508_marker_key.specs.Key.{question_bytes}

-- a diagram that begins a node, one that continues the node before it, and one that is numbered
pub data Item (Q : Type 0) : Type 0 where
  Begun : Diagram Q → Item Q
  GoneOn : Diagram Q → Item Q
  Closed : Diagram Q → Item Q

module _ {Q V : Type 0} (ask : Asking Q V) (bytes : Q → List ℕ) where
  -- the bytes of a diagram that continues a node
  abbrev pub in_line : List (Diagram Q) → Diagram Q → Written Q
  in_line numbered (Leaf b) = record { bytes = leaf_byte b ∷ []; numbered = numbered }
  in_line numbered (Test q low high) =
      let first : Written Q = written ask bytes None numbered low in
      both ask bytes q first (written ask bytes (Some q) first.numbered high)

  -- the bytes of items, where these diagrams are numbered
  unfoldable pub items_bytes : List (Diagram Q) → List (Item Q) → List ℕ
  items_bytes numbered [] = []
  items_bytes numbered (Begun diagram ∷ items) =
      let now : Written Q = written ask bytes None numbered diagram in
      now.bytes ++ items_bytes now.numbered items
  items_bytes numbered (GoneOn diagram ∷ items) =
      let now : Written Q = in_line numbered diagram in
      now.bytes ++ items_bytes now.numbered items
  items_bytes numbered (Closed diagram ∷ items) = items_bytes (numbered ++ diagram ∷ []) items

-- ---- steps of the program

-- a node from an endpoint on, with a tree below it
abbrev pub node_from : NodeRecord → Tree → ℕ → NodeRecord
node_from (Versions key first later) low index = Versions key low (drop index later)
node_from (Texts key first later) low index = Texts key low (drop index later)
node_from (Flagged flag set unset) low index = Flagged flag low unset

-- the first child
abbrev pub first_of : Option NodeRecord → Option Tree
first_of None = None
first_of (Some node) = Some (first_child node)

-- steps for both sides of the first of some endpoints, the next one last
abbrev pub sides : {T : Type 0} → Tree → Tree → ℕ → Bool → List (Branch T Tree) → List Step
sides tree low index negated [] = []
sides tree low index negated (branch ∷ []) =
    step.Enter (turned negated branch.child) ∷ step.Enter low ∷ []
sides tree low index negated (branch ∷ other ∷ others) =
    step.Branch tree (turned negated branch.child) (index + 1) ∷ step.Enter low ∷ []

-- how many questions a node has
abbrev pub questions_in : NodeRecord → ℕ
questions_in (Versions key first later) = length later
questions_in (Texts key first later) = length later
questions_in (Flagged flag set unset) = 1

-- the tree's node has a question at the index
abbrev pub HasQuestion : Option NodeRecord → ℕ → Type 0
HasQuestion None index = ⊥
HasQuestion (Some node) index = index < questions_in node

module _ (nodes : List NodeRecord) where
  -- the diagram of a root from an index on
  abbrev pub branch_diagram : Option NodeRecord → Tree → ℕ → Diagram Question
  branch_diagram None low index = diagram_of nodes low
  branch_diagram (Some node) low index = node_diagram (diagram_of nodes) (node_from node low index)

  -- the part of a diagram that a step writes
  abbrev pub item_of : Step → Item Question
  item_of (step.Enter tree) = Begun (diagram_of nodes tree)
  item_of (step.Branch tree low index) = GoneOn (branch_diagram (root_of nodes tree) low index)
  item_of (step.Close tree) = Closed (diagram_of nodes tree)

  -- the step is about trees of these nodes
  abbrev pub IsStep : Step → Type 0
  IsStep (step.Enter tree) = IsTree nodes tree
  IsStep (step.Branch tree low index) =
      IsTree nodes tree × IsTree nodes low × HasQuestion (root_of nodes tree) index
  IsStep (step.Close tree) = IsTree nodes tree

  -- the bytes of items, where these trees are numbered
  abbrev pub bytes_left : List Tree → List (Item Question) → List ℕ
  bytes_left numbered items = items_bytes marker question_bytes (map (diagram_of nodes) numbered) items

  -- the items of steps, of which the last is the next
  abbrev pub items_of : List Step → List (Item Question)
  items_of steps = map item_of (reverse steps)

  -- the question of a tree's node at an endpoint was written: its two sides are what is left
  pub record IsAsked (tree low : Tree) (index : ℕ) (key new_key : List ℕ) (steps new_steps : List Step)
      : Type 0 where
    pub bytes : List ℕ
    pub high : Step
    pub key_is : new_key ≡ key ++ 2 ∷ bytes
    pub steps_are : new_steps ≡ steps ++ high ∷ step.Enter low ∷ []
    pub made : IsStep high
    pub same : (numbered : List Tree) (items : List (Item Question)) →
        bytes_left numbered (item_of (step.Branch tree low index) ∷ items)
        ≡ (2 ∷ bytes) ++ bytes_left numbered (item_of (step.Enter low) ∷ item_of high ∷ items)

  -- a step was made: bytes were written, and other steps replace it for what is left
  pub record IsMade (next : Step) (key new_key : List ℕ) (steps new_steps : List Step)
      (numbered new_numbered : List Tree) : Type 0 where
    pub bytes : List ℕ
    pub more : List Step
    pub key_is : new_key ≡ key ++ bytes
    pub steps_are : new_steps ≡ steps ++ more
    pub made : AllByRecursion IsStep more
    pub numbered_made : AllByRecursion (IsTree nodes) numbered → AllByRecursion (IsTree nodes) new_numbered
    pub same : AllByRecursion (IsTree nodes) numbered → (items : List (Item Question)) →
        bytes_left numbered (item_of next ∷ items) ≡ bytes ++ bytes_left new_numbered (items_of more ++ items)
    pub falls : length more < 3 * length bytes + 1
