use Rattle.pep440_specifier_list.proofs.Grammar.{list_law}
use Rattle.pep440_specifier_list.proofs.laws.list_text_is_read.Goals as goal

pub returns : goal.returns
returns c = list_law (λ text specifier utf8. c.specifier_text_is_read.ensures text specifier)
