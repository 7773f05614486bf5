use Rattle.std.proofs.Common.{◌∙◌, ap, sym}
use Rattle.pep508_simplification.specs.Simplified.{is_named}
use Rattle.pep508_simplification.proofs.named.is_flag_named.Goals as goal

pub returns-in-Extra : goal.returns-in-Extra
returns-in-Extra g c says by = by _ _ c.predicate.ensures ∙ ap (is_named says) (sym c.in-Extra.is)
