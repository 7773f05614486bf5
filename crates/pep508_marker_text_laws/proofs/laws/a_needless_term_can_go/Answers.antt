use Rattle.pep508_marker_text_laws.proofs.Removals.{needless_removed}
use Rattle.pep508_marker_text_laws.proofs.laws.a_needless_term_can_go.Goals as goal

pub returns : goal.returns
returns c = λ truth done later front behind term is e. needless_removed is done later front behind term e
