use Rattle.std.proofs.Common.{arith}
use Rattle.version_ranges.proofs.Reading.{count_is}
use Rattle.version_ranges.proofs.iter.IterIterator.size_hint.Goals as goal

pub returns-clause-lower : goal.returns-clause-lower
returns-clause-lower g c = λ u.
    omega (
      arith,
      count_is c.self.inside.starts_held c.self.inside.boundaries.now c.args.self.now
          c.count_intervals-left.result c.self.view_is c.count_intervals-left.ensures,
    )

pub returns-clause-upper : goal.returns-clause-upper
returns-clause-upper g c = (
  tt,
  omega (
    arith,
    count_is c.self.inside.starts_held c.self.inside.boundaries.now c.args.self.now
        c.count_intervals-left.result c.self.view_is c.count_intervals-left.ensures,
  ),
)
