use Rattle.pep508_marker.proofs.Steps.{folds_by_part}
use Rattle.pep508_marker.proofs.laws.closure_is_called_with_each.Goals as goal

pub returns : goal.returns
returns g c = λ old new warnings h. folds_by_part (λ r. r.closure) _ _ (λ p x q called. called) warnings old new h
