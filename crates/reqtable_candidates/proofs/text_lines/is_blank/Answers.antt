use Rattle.std.proofs.Common.{◌∙◌, ◌==◌, ap, length}
use Rattle.reqtable_candidates.proofs.Comments.{trimmed_is_blank}
use Rattle.reqtable_candidates.proofs.text_lines.is_blank.Goals as goal

pub returns : goal.returns
returns c = c.is_empty.ensures ∙ ap (λ bs. length bs == 0) c.trim_start.ensures.trim ∙ trimmed_is_blank c.args.line.now
