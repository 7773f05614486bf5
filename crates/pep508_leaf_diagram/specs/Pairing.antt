-- What stands in two diagrams for each answer about a variable.
use Rattle.std.specs.Prelude.{◌≡◌, ◌⊎◌, ℕ, List, length}
use Rattle.std.specs.declared.cmp.Ordering.TheVariants.{Less, Equal, Greater}
use Rattle.pep440_text.specs.Record.{VersionRecord}
use Rattle.pep508_diagram.specs.declared.branch.Branch.{Branch}
use Rattle.pep508_diagram.specs.Text.{text_cmp}
use Rattle.pep508_diagram.specs.Question.{Valuation}
use Rattle.pep508_tree.specs.Meaning.{NodeOf, NodeRecord, Versions, Texts, Flagged}
use Rattle.pep508_tree.specs.Nodes.{AllChildren, IsChildIn, IsRising, chosen, node_place}
use Rattle.pep508_leaf_diagram.specs.declared.child.Child.{Child}
use Rattle.pep508_leaf_diagram.specs.declared.diagram.Diagram.{Diagram}
use Rattle.pep508_leaf_diagram.specs.Leaves.{leaf_at, IsMade, IsAbove, IsGraph}

-- a node of pairs, of a variable, by what stands on both sides at a valuation, and what holds of the children
pub record ArePaired (place : List ℕ) (first second : Valuation → Child) (P Q : Child → Type 0)
    (pairs : NodeOf (Child × Child)) : Type 0 where
  pub place_is : node_place pairs ≡ place
  pub rises : IsRising pairs
  pub chosen_is : (v : Valuation) → chosen pairs v ≡ (first v, second v)
  pub children : AllChildren (λ pair. P pair.0 × Q pair.1) pairs

-- a node's children in pairs with those of another node
abbrev pub PairedNodes : NodeOf Child → NodeOf Child → NodeOf (Child × Child) → Type 0
PairedNodes n m pairs =
    ArePaired (node_place n) (chosen n) (chosen m) (λ c. IsChildIn c n) (λ c. IsChildIn c m) pairs

-- a node of the first one's variable with other children
abbrev pub under : NodeOf Child → Child → List (Branch VersionRecord Child) → List (Branch (List ℕ) Child) →
    Child → NodeOf Child
under (Versions key f l) first versions texts second = Versions key first versions
under (Texts key f l) first versions texts second = Texts key first texts
under (Flagged flag s u) first versions texts second = Flagged flag first second

-- a child with the children of a node, or the other way round, or both, by which variable comes first
abbrev pub AreJoined : Child → Child → NodeOf Child → NodeOf Child → NodeOf (Child × Child) → Type 0
AreJoined first second node other pairs =
    ((text_cmp (node_place node) (node_place other) ≡ Less)
    × ArePaired (node_place node) (chosen node) (λ v. second) (λ c. IsChildIn c node) (λ c. c ≡ second) pairs)
    ⊎ (((text_cmp (node_place node) (node_place other) ≡ Equal)
    × PairedNodes node other pairs)
    ⊎ ((text_cmp (node_place node) (node_place other) ≡ Greater)
    × ArePaired (node_place other) (λ v. first) (chosen other)
    (λ c. c ≡ first) (λ c. IsChildIn c other) pairs))

-- a child of a diagram
abbrev pub MadeIn : List NodeRecord → Diagram → Child → Type 0
MadeIn inner d child = IsMade inner d.leaves (length d.nodes.items) child

-- it asks first of a variable behind the place
abbrev pub AboveIn : List NodeRecord → Diagram → List ℕ → Child → Type 0
AboveIn inner d place child = IsAbove inner d.nodes.items place child

-- the leaf that is reached below a child of a diagram
abbrev pub leaf_in : List NodeRecord → Diagram → Child → Valuation → ℕ
leaf_in inner d child v = leaf_at inner d.nodes.items child v

-- a diagram over the nodes of an interner
pub record IsDiagram (inner : List NodeRecord) (d : Diagram) : Type 0 where
  pub graph : IsGraph inner d.leaves d.nodes.items
  pub root : MadeIn inner d d.root

-- children of two diagrams by the variable that comes first in them
pub record AreSplit (inner : List NodeRecord) (a b : Diagram) (first second : Child)
    (pairs : NodeOf (Child × Child)) : Type 0 where
  pub rises : IsRising pairs
  pub made : AllChildren (λ pair. MadeIn inner a pair.0 × MadeIn inner b pair.1) pairs
  pub above : AllChildren (λ pair. AboveIn inner a (node_place pairs) pair.0
      × AboveIn inner b (node_place pairs) pair.1) pairs
  pub before : (place : List ℕ) → AboveIn inner a place first → AboveIn inner b place second →
      text_cmp place (node_place pairs) ≡ Less
  pub first_is : (v : Valuation) → leaf_in inner a first v ≡ leaf_in inner a (chosen pairs v).0 v
  pub second_is : (v : Valuation) → leaf_in inner b second v ≡ leaf_in inner b (chosen pairs v).1 v
