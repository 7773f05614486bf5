use Rattle.pep440_specifier.proofs.Grammar.{one_specifier}
use Rattle.pep440_specifier.proofs.laws.text_has_one_specifier.Goals as goal

pub returns : goal.returns
returns c = one_specifier c.pattern_text_is_read.ensures
