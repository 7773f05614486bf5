use Rattle.std.proofs.Common.{sym, subst}
use Rattle.version_ranges.specs.Turns.{Rising}
use Rattle.version_ranges.specs.Boundaries.{boundary_cmp}
use Rattle.version_ranges.proofs.Turning.{rising_boundaries}
use Rattle.version_ranges.proofs.ranges.Ranges.turns.Goals as goal

pub returns-clause-rising : goal.returns-clause-rising
returns-clause-rising g c =
    subst (Rising (boundary_cmp g.T.Ord.cmp)) (sym c.deref.ensures.value)
    (rising_boundaries g.T.Ord.cmp c.self.inside.starts_held c.self.inside.boundaries.items c.self.invariant)
