use Rattle.std.proofs.Common.{◌≡◌, length}
use Rattle.version_ranges.specs.Order.{start_point}
use Rattle.pep440_specifier.specs.Bounds.{lent_bound}
use Rattle.pep440_version.specs.Order.{version_cmp}
use Rattle.pep508_diagram.specs.Branches.{branch_at}
use Rattle.pep508_simplification.specs.Within.{behind}
use Rattle.pep508_simplification.proofs.within.behind.Given as goal

abbrev pub invariant-loop-branch : goal.invariant-loop-branch
invariant-loop-branch l =
    let start = start_point (lent_bound l.lower) in
    (branch_at version_cmp l.child l.left start ≡ branch_at version_cmp l.fn.first l.fn.later start)
    × (behind version_cmp start l.left ≡ behind version_cmp start l.fn.later)

abbrev pub decreases-loop-branch : goal.decreases-loop-branch
decreases-loop-branch l = length l.left
