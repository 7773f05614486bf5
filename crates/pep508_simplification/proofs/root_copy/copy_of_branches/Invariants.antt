use Rattle.std.proofs.Common.{◌≡◌, map, take}
use Rattle.pep508_simplification.specs.Parts.{signs}
use Rattle.pep508_simplification.proofs.root_copy.copy_of_branches.Given as goal

abbrev pub invariant-loop-branch : goal.invariant-loop-branch
invariant-loop-branch g l = l.branches.items ≡ map (signs l.fn.negated) (take l.branch-index l.later)
