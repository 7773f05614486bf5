use Rattle.std.proofs.Common.{◌≡◌, ◌++◌, map, take}
use Rattle.pep508_diagram.proofs.branch.add_children.Given as goal

abbrev pub invariant-loop-branch : goal.invariant-loop-branch
invariant-loop-branch g l = l.children.items ≡ l.fn.children.items ++ map (λ branch. branch.child)
    (take l.branch-index l.later)
