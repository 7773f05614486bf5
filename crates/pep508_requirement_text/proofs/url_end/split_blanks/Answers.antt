use Rattle.pep508_requirement_text.proofs.UrlLoops.{trimmed_boundary, blanks_are}
use Rattle.pep508_requirement_text.proofs.url_end.split_blanks.Goals as goal

pub split_at-requires : goal.split_at-requires
split_at-requires c =
    trimmed_boundary c.args.text.now c.trim_start-behind.result.now c.utf8.text c.trim_start-behind.utf8
    c.trim_start-behind.ensures.value

pub returns : goal.returns
returns c =
    blanks_are c.args.text.now c.trim_start-behind.result.now c.utf8.text c.trim_start-behind.utf8
    c.trim_start-behind.ensures.value c.split_at.result.0.now c.split_at.ensures.front
    c.trim_start-behind.ensures.trim
