use Rattle.std.proofs.Common.{◌∙◌, ap, true, false}
use Rattle.std.specs.Prelude.{None}
use Rattle.version_ranges.specs.Bounds.{single_value}
use Rattle.version_ranges.proofs.Reading.{single_answer}
use Rattle.version_ranges.proofs.Turning.{turns_at}
use Rattle.version_ranges.proofs.ranges.Ranges.as_singleton.Goals as goal

pub returns-then-starts_held-clause-points : goal.returns-then-starts_held-clause-points
returns-then-starts_held-clause-points g c =
    let turns = c.turns-starts_held in
    single_answer g.T.Ord.cmp g.met.T.Ord.total c.args.self.now turns.ensures.normal None
    (ap (single_value g.T.Ord.cmp)
    (turns_at turns.result.0 true turns.result.1.now c.args.self.now c.if-starts_held.true
    turns.ensures.turns))

pub returns-else-starts_held-clause-points : goal.returns-else-starts_held-clause-points
returns-else-starts_held-clause-points g c =
    let turns = c.turns-starts_held in
    single_answer g.T.Ord.cmp g.met.T.Ord.total c.args.self.now turns.ensures.normal c.only_value.result
    (c.only_value.ensures ∙ ap (single_value g.T.Ord.cmp)
    (turns_at turns.result.0 false turns.result.1.now c.args.self.now c.if-starts_held.false
    turns.ensures.turns))
