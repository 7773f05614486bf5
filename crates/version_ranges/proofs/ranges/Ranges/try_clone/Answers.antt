use Rattle.std.proofs.Common.{◌∙◌, ap}
use Rattle.std.proofs.lemmas.Result.{IfOk-weaker}
use Rattle.version_ranges.specs.Held.{holds_at}
use Rattle.version_ranges.proofs.ranges.Ranges.try_clone.Goals as goal

pub returns : goal.returns
returns g c =
    IfOk-weaker c.copied.result _ _
    (λ set same p. same p ∙ ap (λ turns. holds_at g.T.Ord.cmp turns p) c.turns-starts_held.ensures.turns)
    c.copied.ensures
