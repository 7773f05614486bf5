use Rattle.std.proofs.Common.{◌≡◌, ◌++◌}
use Rattle.std.specs.Vec.Iter.{into_iter_items}
use Rattle.pep508_diagram.specs.Joining.{joined_by}
use Rattle.pep508_diagram.proofs.branch.rejoined.Given as goal

abbrev pub invariant-loop-branch : goal.invariant-loop-branch
invariant-loop-branch g l =
    l.branches.items ++ joined_by g.D.PartialEq.eq l.last (into_iter_items l.branch-iterator) l.left
    ≡ joined_by g.D.PartialEq.eq l.fn.first l.fn.later.items l.fn.children
