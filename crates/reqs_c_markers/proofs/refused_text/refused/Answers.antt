use Rattle.std.proofs.Common.{◌∙◌}
use Rattle.reqs_c_markers.proofs.Told.{told_with}
use Rattle.reqs_c_markers.proofs.refused_text.refused.Goals as goal

pub returns-in_default : goal.returns-in_default
returns-in_default c =
    told_with c.args.input c.args.error.now c.span.result c.start-start.result c.len.result c.to_string.result _
    (λ h. c.in_default.not-Memory (c.message.ensures ∙ h)) c.span.ensures c.start-start.ensures.start c.len.ensures
    c.start-start.ensures.placed c.refused.ensures (rw c.message.ensures at c.to_string.ensures.ok)
