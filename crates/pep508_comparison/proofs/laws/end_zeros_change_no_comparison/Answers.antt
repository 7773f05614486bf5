use Rattle.std.proofs.Common.{ap}
use Rattle.pep508_comparison.specs.Comparisons.{python_points_by}
use Rattle.pep508_comparison.proofs.SameKeys.{same_numbers, same_range}
use Rattle.pep508_comparison.proofs.laws.end_zeros_change_no_comparison.Goals as goal

pub returns-clause-python : goal.returns-clause-python
returns-clause-python c = λ operator version other star tilde e.
    ap (python_points_by operator) (same_numbers operator version.release other.release star tilde e)

pub returns-clause-full : goal.returns-clause-full
returns-clause-full c = λ operator version other star tilde e.
    same_range operator version.release other.release star tilde e
