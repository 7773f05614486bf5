use Rattle.std.proofs.Common.{ap, length, arith}
use Rattle.std.proofs.iter.runs.Sources.{from_front}
use Rattle.std.specs.Map.Iter.{TakesFirst}
use Rattle.version_ranges.specs.Bounds.{intervals, lent_bounds}
use Rattle.version_ranges.proofs.Reading.{count_is}
use Rattle.version_ranges.proofs.ranges.Ranges.iter.Goals as goal

pub returns-clause-runs : goal.returns-clause-runs
returns-clause-runs g c =
    from_front (TakesFirst lent_bounds) lent_bounds (λ left. left) (λ s t h. ap length h.0) (λ s x t h. h)

pub returns-clause-fits : goal.returns-clause-fits
returns-clause-fits g c =
    omega (
      arith,
      count_is c.turns-starts_held.result.0 c.turns-starts_held.result.1.now (intervals c.args.self.now)
          c.count_intervals-count.result (ap intervals c.turns-starts_held.ensures.turns) c.count_intervals-count.ensures,
    )
