-- Nodes whose children are constants.
use Rattle.std.specs.Prelude.{Bool, map}
use Rattle.pep508_diagram.specs.declared.branch.Branch.{Branch}
use Rattle.pep508_tree.specs.Tree.{Tree, constant}
use Rattle.pep508_tree.specs.Meaning.{NodeOf, NodeRecord, Versions, Texts, Flagged}

abbrev pub constant_branch : {T : Type 0} → Branch T Bool → Branch T Tree
constant_branch branch = record { boundary = branch.boundary; child = constant branch.child }

-- the node with the constant trees of truths
abbrev pub with_constants : NodeOf Bool → NodeRecord
with_constants (Versions key first later) = Versions key (constant first) (map constant_branch later)
with_constants (Texts key first later) = Texts key (constant first) (map constant_branch later)
with_constants (Flagged flag set unset) = Flagged flag (constant set) (constant unset)
