use Rattle.std.proofs.Common.{◌≡◌, length}
use Rattle.pep508_diagram.specs.Branches.{AllBranches}
use Rattle.pep508_conjunctions.proofs.borrowed_nodes.are_constant.Given as goal

abbrev pub invariant-loop-left : goal.invariant-loop-left
invariant-loop-left g l =
    AllBranches (λ child. child.place ≡ 0) l.child l.left → AllBranches (λ child. child.place ≡ 0) l.fn.first l.fn.later

abbrev pub decreases-loop-left : goal.decreases-loop-left
decreases-loop-left g l = length l.left
