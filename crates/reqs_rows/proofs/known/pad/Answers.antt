use Rattle.std.proofs.Common.{◌∙◌, None, get_or, ap}
use Rattle.reqs_rows.proofs.Places.{default_behind}
use Rattle.reqs_rows.proofs.known.pad.Goals as goal

pub loop-pieces-preserved : goal.loop-pieces-preserved
loop-pieces-preserved c = λ at.
    ap (λ l. get_or l at None) c.in_ok-push.ensures.items ∙ default_behind c.loop-pieces.pieces.items None at
    ∙ c.loop-pieces.invariant at
