use Rattle.std.proofs.Common.{◌∙◌, ap, not}
use Rattle.std.proofs.lemmas.Result.{IfOk-weaker}
use Rattle.version_ranges.specs.Held.{holds_at}
use Rattle.version_ranges.proofs.Turning.{held_turned}
use Rattle.version_ranges.proofs.ranges.Ranges.complement.Goals as goal

pub returns : goal.returns
returns g c =
    let turns = c.turns-starts_held in
    IfOk-weaker c.copied.result _ _
    (λ set same p. same p ∙ held_turned g.T.Ord.cmp turns.result.0 turns.result.1.now p
    ∙ ap (λ points. not (holds_at g.T.Ord.cmp points p)) turns.ensures.turns)
    c.copied.ensures
