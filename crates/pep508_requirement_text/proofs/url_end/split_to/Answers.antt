use Rattle.pep508_requirement_text.proofs.UrlLoops.{cut_boundary, url_parts}
use Rattle.pep508_requirement_text.proofs.url_end.split_to.Goals as goal

pub split_at-requires : goal.split_at-requires
split_at-requires c = cut_boundary c.args.text.now c.requires.front c.args.behind.now c.requires.cut

pub returns : goal.returns
returns c =
    let parts =
    url_parts c.args.brackets c.args.text.now c.args.behind.now c.split_at.result.0.now c.split_at.result.1.now
    c.requires c.split_at.ensures.front c.split_at.ensures.back in
    record { parts = parts.0; whole = parts.1 }
