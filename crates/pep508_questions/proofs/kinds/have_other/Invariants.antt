use Rattle.std.proofs.Common.{◌≡◌, drop}
use Rattle.std.specs.List.{list_any}
use Rattle.pep508_questions.specs.Asks.{stands_at, is_other_version}
use Rattle.pep508_questions.proofs.kinds.have_other.Given as goal

abbrev pub invariant-loop-branch : goal.invariant-loop-branch
invariant-loop-branch l =
    list_any (λ branch. stands_at is_other_version branch.boundary) (drop l.branch-index l.later)
    ≡ list_any (λ branch. stands_at is_other_version branch.boundary) l.later
