-- Nodes with new children, in order.
use Rattle.std.specs.Prelude.{Bool, ◌==◌, ◌&&◌, List, [], ◌∷◌, map}
use Rattle.std.specs.Bool.{beq}
use Rattle.pep508_diagram.specs.declared.branch.Branch.{Branch}
use Rattle.pep508_diagram.specs.Joining.{joined_by}
use Rattle.pep508_tree.specs.Tree.{Tree, always}
use Rattle.pep508_tree.specs.Meaning.{NodeOf, NodeRecord, Versions, Texts, Flagged}

-- the children of a node, in order
abbrev pub children : {C : Type 0} → NodeOf C → List C
children (Versions key first later) = first ∷ map (λ branch. branch.child) later
children (Texts key first later) = first ∷ map (λ branch. branch.child) later
children (Flagged flag set unset) = set ∷ unset ∷ []

-- two trees are one
abbrev pub is_same : Tree → Tree → Bool
is_same a b = (a.place == b.place) && beq a.negated b.negated

-- branches between the same endpoints, with these trees; equal neighbours are joined
abbrev pub joined : {T C : Type 0} → Tree → List (Branch T C) → List Tree → List (Branch T Tree)
joined = joined_by is_same

-- the first of trees, and the others
abbrev pub head : List Tree → Tree
head [] = always
head (tree ∷ trees) = tree

abbrev pub tail : List Tree → List Tree
tail [] = []
tail (tree ∷ trees) = trees

-- the node with these trees as children, equal neighbours joined
abbrev pub node_joined : {C : Type 0} → NodeOf C → List Tree → NodeRecord
node_joined (Versions key first later) trees = Versions key (head trees)
    (joined (head trees) later (tail trees))
node_joined (Texts key first later) trees = Texts key (head trees) (joined (head trees) later (tail trees))
node_joined (Flagged flag set unset) trees = Flagged flag (head trees) (head (tail trees))
