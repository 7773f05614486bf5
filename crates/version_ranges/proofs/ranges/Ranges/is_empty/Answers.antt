use Rattle.std.proofs.Common.{◌∙◌, ap, sym, length, not, ◌&&◌}
use Rattle.std.specs.Prelude.{◌==◌}
use Rattle.version_ranges.proofs.Reading.{empty_turns}
use Rattle.version_ranges.proofs.ranges.Ranges.is_empty.Goals as goal

pub returns-then-starts_held : goal.returns-then-starts_held
returns-then-starts_held g c =
    let turns = c.turns-starts_held in
    empty_turns g.T.Ord.cmp g.met.T.Ord.total turns.result.0 turns.result.1.now c.args.self.now _
    turns.ensures.turns turns.ensures.normal
    (sym (ap (λ sign. not sign && (length turns.result.1.now == 0)) c.if-starts_held.true))

pub returns : goal.returns
returns g c =
    let turns = c.turns-starts_held in
    empty_turns g.T.Ord.cmp g.met.T.Ord.total turns.result.0 turns.result.1.now c.args.self.now
    c.is_empty.result
    turns.ensures.turns turns.ensures.normal
    (c.is_empty.ensures
    ∙ sym (ap (λ sign. not sign && (length turns.result.1.now == 0)) c.if-starts_held.false))
