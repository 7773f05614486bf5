use Rattle.pep508_marker_text_laws.proofs.Removals.{simplified_keeps}
use Rattle.pep508_marker_text_laws.proofs.laws.simplified_clauses_mean_the_same.Goals as goal

pub returns : goal.returns
returns c = λ truth clauses is. simplified_keeps is clauses
