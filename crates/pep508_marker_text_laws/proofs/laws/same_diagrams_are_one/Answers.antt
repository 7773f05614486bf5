use Rattle.pep508_marker_text_laws.proofs.SameDiagrams.{same_are_one, one_are_same}
use Rattle.pep508_marker_text_laws.proofs.laws.same_diagrams_are_one.Goals as goal

pub returns : goal.returns
returns c = λ a b. (same_are_one a b, one_are_same a b)
