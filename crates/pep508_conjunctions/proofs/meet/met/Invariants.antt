use Rattle.std.proofs.Common.{◌≡◌, ◌++◌}
use Rattle.std.specs.Vec.Iter.{into_iter_items}
use Rattle.pep508_conjunctions.specs.Meets.{met}
use Rattle.pep508_conjunctions.proofs.meet.met.Given as goal

abbrev pub invariant-loop-branch : goal.invariant-loop-branch
invariant-loop-branch g l =
    l.branches.items ++ met l.last (into_iter_items l.branch-iterator) ≡ met l.fn.first l.fn.later.items
