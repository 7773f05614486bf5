use Rattle.std.proofs.Common.{◌∙◌, ap}
use Rattle.pep508_leaf_diagram.specs.Leaves.{leaf_at}
use Rattle.pep508_leaf_diagram.proofs.Roots.{child_leaf}
use Rattle.pep508_leaf_diagram.proofs.diagram.Diagram.of_tree.Goals as goal

pub returns-clause-leaf : goal.returns-clause-leaf
returns-clause-leaf c = λ inner v.
    ap (λ child. leaf_at inner c.new.result.items child v) c.child_of.ensures
    ∙ child_leaf inner c.new.result.items c.args.tree v
