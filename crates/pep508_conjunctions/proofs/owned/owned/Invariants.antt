use Rattle.std.proofs.Common.{◌≡◌, take}
use Rattle.pep508_conjunctions.proofs.owned.owned.Given as goal

abbrev pub invariant-loop-branch : goal.invariant-loop-branch
invariant-loop-branch g l = l.later.items ≡ take l.branch-index l.branch-items
