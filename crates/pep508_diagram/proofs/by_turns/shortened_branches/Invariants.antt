use Rattle.std.proofs.Common.{◌≡◌, map}
use Rattle.pep508_diagram.specs.Shortened.{shortened_branch}
use Rattle.pep508_diagram.proofs.by_turns.shortened_branches.Given as goal

abbrev pub invariant-loop-branch : goal.invariant-loop-branch
invariant-loop-branch g l = l.branches.items ≡ map shortened_branch l.yielded
