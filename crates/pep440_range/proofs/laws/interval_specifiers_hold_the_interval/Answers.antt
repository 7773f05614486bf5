use Rattle.pep440_range.proofs.Intervals.{say_interval}
use Rattle.pep440_range.proofs.laws.interval_specifiers_hold_the_interval.Goals as goal

pub returns : goal.returns
returns c = say_interval
