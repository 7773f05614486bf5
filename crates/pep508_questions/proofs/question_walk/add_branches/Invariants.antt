use Rattle.std.proofs.Common.{◌≡◌, map, drop}
use Rattle.pep508_questions.specs.Looked.{with_trees}
use Rattle.pep508_questions.proofs.question_walk.add_branches.Given as goal

abbrev pub invariant-loop-branch : goal.invariant-loop-branch
invariant-loop-branch g l =
    with_trees l.left.entries (map (λ branch. branch.child) (drop l.branch-index l.later))
    ≡ with_trees l.initial.left.entries (map (λ branch. branch.child) l.later)
