use Rattle.pep508_marker_text_laws.proofs.Removals.{covered_removed}
use Rattle.pep508_marker_text_laws.proofs.laws.a_covered_clause_can_go.Goals as goal

pub returns : goal.returns
returns c = λ truth front behind clause is e. covered_removed is front behind clause e
