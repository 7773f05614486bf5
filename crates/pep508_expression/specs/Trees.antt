-- The tree of a comparison, and when there is none.
use Rattle.std.specs.Prelude.{◌≡◌, true, false, List, Result, Ok, Err}
use Rattle.pep440_range.specs.declared.RangeError.{RangeError}
use Rattle.pep440_range.specs.declared.RangeError.TheVariants.{NumberAtEnd, Memory}
use Rattle.pep508_marker.specs.declared.operators.MarkerOperator.TheVariants.{TildeEqual}
use Rattle.pep508_marker.specs.Expression.{ExpressionRecord, Version, VersionIn, String, Extra}
use Rattle.pep508_tree.specs.Tree.{Tree}
use Rattle.pep508_tree.specs.Meaning.{NodeRecord}
use Rattle.pep508_tree.specs.Truths.{IsTreeOf}
use Rattle.pep508_expression.specs.Expressions.{has_points, expression_holds}

-- texts are not compared by `~=`
abbrev pub IsComparison : ExpressionRecord → Type 0
IsComparison (Version key specifier) = Unit {0}
IsComparison (VersionIn key versions negated) = Unit {0}
IsComparison (String key operator text) = operator ≡ TildeEqual → ⊥
IsComparison (Extra operator asked) = Unit {0}

-- the tree holds where the comparison does; there is none where a number can't be raised; only lack of
-- memory leaves both open
abbrev pub GivesTree : List NodeRecord → Result Tree RangeError → ExpressionRecord → Type 0
GivesTree nodes (Ok tree) expression =
    (has_points expression ≡ true) × IsTreeOf nodes (expression_holds expression) tree
GivesTree nodes (Err NumberAtEnd) expression = has_points expression ≡ false
GivesTree nodes (Err Memory) expression = Unit {0}
