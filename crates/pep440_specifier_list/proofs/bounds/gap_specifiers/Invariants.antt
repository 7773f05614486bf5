use Rattle.std.proofs.Common.{◌≡◌, ◌++◌, drop, map}
use Rattle.version_ranges.specs.Bounds.{lent_bounds}
use Rattle.pep440_specifier.specs.Bounds.{lent_bound, IsReleaseBound}
use Rattle.pep440_specifier_list.specs.ListBounds.{AreReleaseIntervals, gap_specifiers}
use Rattle.pep440_specifier_list.proofs.bounds.gap_specifiers.Given as goal

abbrev pub invariant-loop-next : goal.invariant-loop-next
invariant-loop-next l =
    IsReleaseBound (lent_bound l.upper) × AreReleaseIntervals (map lent_bounds (drop l.next-index l.later))
    × (l.found.items ++ gap_specifiers (lent_bound l.upper) (map lent_bounds (drop l.next-index l.later))
    ≡ gap_specifiers (lent_bound l.fn.first) (map lent_bounds l.later))
