use Rattle.std.proofs.Common.{ap, sym, ◌∙◌, ◌++◌}
use Rattle.std.specs.Char.{encode_utf8}
use Rattle.pep508_requirement_text.proofs.UrlLoops.{begun}
use Rattle.pep508_requirement_text.proofs.url_end.first.Goals as goal

pub returns : goal.returns
returns c = begun c.args.text.now c.chars-chars.result.rest.now c.as_str.result.now c.in_ok-c.c c.utf8.text
    c.chars-chars.ensures.rest (c.in_ok-c.ensures.steps.0 ∙ ap (λ xs. encode_utf8 c.in_ok-c.c ++ xs) (sym c.as_str.ensures))
