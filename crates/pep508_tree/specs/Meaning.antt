-- What marker trees mean: the nodes of an interner as decision diagrams.
use Rattle.std.specs.Prelude.{◌≡◌, ℕ, ◌≤◌, Bool, true, List, [], ◌∷◌, ◌++◌, length}
use Rattle.std.proofs.Common.{get_or}
use Rattle.pep440_text.specs.Record.{VersionRecord}
use Rattle.pep508_marker.specs.declared.keys.MarkerValueString.{MarkerValueString}
use Rattle.pep508_diagram.specs.declared.branch.Branch.{Branch}
use Rattle.pep508_diagram.specs.declared.variable.VersionVariable.{VersionVariable}
use Rattle.pep508_diagram.specs.declared.variable.Flag.{Flag}
use Rattle.pep508_diagram.specs.Diagram.{Diagram, Leaf, Test, turned_by}
use Rattle.pep508_diagram.specs.Chains.{chain}
use Rattle.pep508_diagram.specs.Question.{Question, VersionBelow, TextBelow, IsSet, Valuation, truth}
use Rattle.pep508_tree.specs.Tree.{Tree}

-- a node: the children between a key's endpoints, or for either truth of a flag
pub data NodeOf (C : Type 0) : Type 0 where
  Versions : VersionVariable → C → List (Branch VersionRecord C) → NodeOf C
  Texts : MarkerValueString → C → List (Branch (List ℕ) C) → NodeOf C
  Flagged : Flag → C → C → NodeOf C

-- a node of trees
abbrev pub NodeRecord : Type 0
NodeRecord = NodeOf Tree

-- the diagram of a node, from those of trees
abbrev pub node_diagram : {C : Type 0} → (C → Diagram Question) → NodeOf C → Diagram Question
node_diagram at (Versions key first later) = chain (VersionBelow key) at first later
node_diagram at (Texts key first later) = chain (TextBelow key) at first later
node_diagram at (Flagged flag set unset) = Test (IsSet flag) (at set) (at unset)

-- the diagram of a tree, from those at each place
abbrev pub tree_diagram : List (Diagram Question) → Tree → Diagram Question
tree_diagram diagrams tree = turned_by tree.negated (get_or diagrams tree.place (Leaf true))

-- the diagrams at the places of nodes, after those that are there already
abbrev pub fill : List (Diagram Question) → List NodeRecord → List (Diagram Question)
fill diagrams [] = diagrams
fill diagrams (node ∷ nodes) = fill (diagrams ++ node_diagram (tree_diagram diagrams) node ∷ []) nodes

-- the diagram at each place of an interner, of which the first is always true
unfoldable pub diagrams : List NodeRecord → List (Diagram Question)
diagrams nodes = fill (Leaf true ∷ []) nodes

-- the diagram of a tree of an interner
abbrev pub diagram_of : List NodeRecord → Tree → Diagram Question
diagram_of nodes tree = tree_diagram (diagrams nodes) tree

-- a tree of an interner holds under a valuation
abbrev pub holds : List NodeRecord → Tree → Valuation → Bool
holds nodes tree v = truth (diagram_of nodes tree) v

-- the tree belongs to these nodes
abbrev pub IsTree : List NodeRecord → Tree → Type 0
IsTree nodes tree = tree.place ≤ length nodes

-- nodes were added, and none was changed
abbrev pub Extends : List NodeRecord → List NodeRecord → Type 0
Extends old new = (more : List NodeRecord) × (new ≡ old ++ more)
