use Rattle.std.proofs.Common.{◌≡◌, map, take}
use Rattle.pep508_conjunctions.specs.Meets.{truth_branch}
use Rattle.pep508_conjunctions.proofs.meet.lent_truths.Given as goal

abbrev pub invariant-loop-branch : goal.invariant-loop-branch
invariant-loop-branch g l =
    l.later.items ≡ map (truth_branch l.source.negated) (take l.branch-index l.branch-items)
