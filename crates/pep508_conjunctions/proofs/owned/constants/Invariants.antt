use Rattle.std.proofs.Common.{◌≡◌, map}
use Rattle.pep508_tree.specs.Leaves.{constant_branch}
use Rattle.pep508_conjunctions.proofs.owned.constants.Given as goal

abbrev pub invariant-loop-branch : goal.invariant-loop-branch
invariant-loop-branch g l = l.branches.items ≡ map constant_branch l.yielded
