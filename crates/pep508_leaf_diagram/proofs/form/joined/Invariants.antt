use Rattle.std.proofs.Common.{◌≡◌, ◌++◌, drop}
use Rattle.pep508_diagram.specs.Joining.{joined_by}
use Rattle.pep508_leaf_diagram.proofs.form.joined.Given as goal

abbrev pub invariant-loop-branch : goal.invariant-loop-branch
invariant-loop-branch g l =
    l.branches.items ++ joined_by g.D.PartialEq.eq l.last (drop l.branch-index l.later) l.left
    ≡ joined_by g.D.PartialEq.eq l.fn.first l.later l.fn.children
