use Rattle.std.proofs.Common.{◌≡◌, ◌++◌, map, drop}
use Rattle.pep440_specifier.specs.Bounds.{lent_bound}
use Rattle.pep440_version.specs.Order.{version_cmp}
use Rattle.pep508_simplification.specs.Parts.{signs}
use Rattle.pep508_simplification.specs.Within.{up_to}
use Rattle.pep508_simplification.proofs.within.copy_up_to.Given as goal

abbrev pub invariant-loop-branch : goal.invariant-loop-branch
invariant-loop-branch l =
    l.branches.items ++ map (signs l.fn.negated) (up_to version_cmp (lent_bound l.upper) (drop l.branch-index l.later))
    ≡ map (signs l.fn.negated) (up_to version_cmp (lent_bound l.upper) l.fn.later)
