use Rattle.pep440_specifier.proofs.Grammar.{specifier_law}
use Rattle.pep440_specifier.proofs.laws.specifier_text_is_read.Goals as goal

pub returns : goal.returns
returns c = specifier_law c.pattern_text_is_read.ensures
