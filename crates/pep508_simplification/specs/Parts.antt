-- The root of a tree, as the copy that is changed and made a tree again.
use Rattle.std.specs.Prelude.{◌≡◌, ℕ, Bool, false, cond, List, [], Option, Some, None, MatchOption}
use Rattle.pep508_diagram.specs.declared.branch.Branch.{Branch}
use Rattle.pep508_simplification.specs.declared.root_copy.Root.{Root}
use Rattle.pep508_simplification.specs.declared.root_copy.Root.TheVariants as root
use Rattle.pep508_tree.specs.Tree.{Tree}
use Rattle.pep508_tree.specs.Meaning.{NodeRecord, Versions, Texts, Flagged}
use Rattle.pep508_tree.specs.Nodes.{Made, turned}
use Rattle.pep508_tree.specs.Joining.{children, node_joined}
use Rattle.pep508_simplification.specs.Simplified.{is_named}

-- the node that was copied; a constant has none
abbrev pub record_of : Root → Option NodeRecord
record_of root.Constant = None
record_of (root.Versions key first later) = Some (Versions key first later.items)
record_of (root.Texts key first later) = Some (Texts key first later.items)
record_of (root.Flagged flag set unset) = Some (Flagged flag set unset)

-- the branch, its tree negated where the flag is set
abbrev pub signs : {T : Type 0} → Bool → Branch T Tree → Branch T Tree
signs turns branch = record branch { child = turned turns branch.child }

-- the children of a node, in order; a constant has none
abbrev pub children_of : Option NodeRecord → List Tree
children_of None = []
children_of (Some node) = children node

-- where the test returns true, a flag has its set child on both sides
abbrev pub with_set : Bool → Option NodeRecord → Option NodeRecord
with_set named None = None
with_set named (Some (Versions key first later)) = Some (Versions key first later)
with_set named (Some (Texts key first later)) = Some (Texts key first later)
with_set named (Some (Flagged flag set unset)) = Some (Flagged flag set (cond named set unset))

-- whether the node tests an extra that is named
abbrev pub is_root_named : (List ℕ → Bool) → Option NodeRecord → Bool
is_root_named says None = false
is_root_named says (Some (Versions key first later)) = false
is_root_named says (Some (Texts key first later)) = false
is_root_named says (Some (Flagged flag set unset)) = is_named says flag

-- the tree of a node with other children, in order; a constant stays as it is
abbrev pub IsRejoined : List NodeRecord → List NodeRecord → Tree → Option NodeRecord → List Tree → Tree
    → Type 0
IsRejoined old new tree node trees made =
    MatchOption node (made ≡ tree) (λ n. Made old new (node_joined n trees) made)
