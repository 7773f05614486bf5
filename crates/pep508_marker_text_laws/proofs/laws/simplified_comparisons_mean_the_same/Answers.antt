use Rattle.pep508_marker_text_laws.proofs.Disjunctions.{comparisons_keep}
use Rattle.pep508_marker_text_laws.proofs.laws.simplified_comparisons_mean_the_same.Goals as goal

pub returns : goal.returns
returns c = comparisons_keep
