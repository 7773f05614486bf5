use Rattle.pep440_specifier.proofs.Said.{text_is_built, text_has_no_ends}
use Rattle.pep440_specifier.proofs.laws.a_read_specifier_is_built.Goals as goal

pub returns-clause-built : goal.returns-clause-built
returns-clause-built c = λ text specifier h.
    text_is_built text specifier ((c.specifier_text_is_read.ensures text specifier).0 h)

pub returns-clause-ends : goal.returns-clause-ends
returns-clause-ends c = λ text specifier h.
    text_has_no_ends text specifier ((c.specifier_text_is_read.ensures text specifier).0 h)
