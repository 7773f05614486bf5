use Rattle.std.proofs.Common.{◌∙◌}
use Rattle.version_ranges.proofs.Reading.{last_open, last_closed}
use Rattle.version_ranges.proofs.ranges.last_upper_bound.Goals as goal

pub returns-then-ends_held : goal.returns-then-ends_held
returns-then-ends_held g c = last_open c.args.starts_held c.args.boundaries.now c.if-ends_held.true

pub returns-else-ends_held : goal.returns-else-ends_held
returns-else-ends_held g c =
    c.as_upper_bound.ensures
    ∙ last_closed c.args.starts_held c.args.boundaries.now c.in-Some.field-0-1.now c.in-Some.last.now
    c.in-Some.ensures.cases.0 c.if-ends_held.false
