use Rattle.std.proofs.Common.{rules, tests}
use Rattle.std.proofs.lemmas.Iterator.{YieldsList-from_slice}
use Rattle.std.proofs.lemmas.Iterator.Search.{all_from_yields_List}
use Rattle.pep508_url.specs.Expansion.{is_variable_byte}
use Rattle.pep508_url.proofs.vars.has_variable_bytes_alone.Goals as goal

pub returns : goal.returns
returns c =
    all_from_yields_List is_variable_byte _ _ _ c.all.ensures.ran (YieldsList-from_slice c.args.text.now cc)
    (λ x b q k. search (rules, tests))
