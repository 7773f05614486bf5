-- Clauses whose comparisons all have points: no number that has to be raised is the greatest of 64 bits.
use Rattle.std.specs.Prelude.{◌≡◌, true, List}
use Rattle.std.specs.List.{AllByRecursion}
use Rattle.pep508_expression.specs.Expressions.{has_points}
use Rattle.pep508_marker_text_laws.specs.Saying.{Clause}

abbrev pub AllHavePoints : List Clause → Type 0
AllHavePoints = AllByRecursion (AllByRecursion (λ term. has_points term ≡ true))
