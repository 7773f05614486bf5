use Rattle.std.proofs.Common.{◌∙◌}
use Rattle.pep508_requirement_text.proofs.Looks.{looks_are}
use Rattle.pep508_requirement_text.proofs.look.looks_unnamed.Goals as goal

pub returns : goal.returns
returns c = looks_are c.args.vars.now c.args.text.now c.as_str.result.now c.before_extras.result.now c.looks_like_url.result
    (c.as_str.ensures.value ∙ c.in_ok-expanded.ensures) c.before_extras.ensures c.looks_like_url.ensures
