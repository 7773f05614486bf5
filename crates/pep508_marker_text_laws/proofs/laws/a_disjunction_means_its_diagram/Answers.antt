use Rattle.pep508_marker_text_laws.proofs.Disjunctions.{disjunction_means}
use Rattle.pep508_marker_text_laws.proofs.laws.a_disjunction_means_its_diagram.Goals as goal

pub returns : goal.returns
returns c = λ diagram canonical releases some v. disjunction_means diagram canonical releases some v
