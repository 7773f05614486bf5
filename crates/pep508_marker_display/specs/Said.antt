-- The comparisons of a key, by how its value compares with another one.
use Rattle.std.specs.Prelude.{Bool, true, false, List, map, Option, option_to_list}
use Rattle.pep508_marker.specs.declared.operators.MarkerOperator.{MarkerOperator}
use Rattle.pep508_marker.specs.declared.operators.MarkerOperator.TheVariants as texts
use Rattle.pep508_marker.specs.Expression.{ExpressionRecord, expression_of}
use Rattle.pep508_marker.specs.declared.expression.MarkerExpression.{MarkerExpression}
use Rattle.pep508_marker_text_laws.specs.Saying.{Saying}
use Rattle.pep508_marker_display.specs.declared.says.Relation.{Relation}
use Rattle.pep508_marker_display.specs.declared.says.Relation.TheVariants.{Equal, NotEqual, AtLeast}
use Rattle.pep508_marker_display.specs.declared.says.Relation.TheVariants.{Above, AtMost, Below}

abbrev pub said : {T : Type 0} → Saying T → Relation → T → ExpressionRecord
said say Equal = say.equal
said say NotEqual = say.differs
said say AtLeast = say.at_least
said say Above = say.above
said say AtMost = say.at_most
said say Below = say.below

-- the comparison of a star, by `!=` where the flag is set
abbrev pub star_said : {T : Type 0} → Saying T → Bool → T → T → Option ExpressionRecord
star_said say true = say.no_star
star_said say false = say.star

-- the operator of a text's comparison
abbrev pub text_operator : Relation → MarkerOperator
text_operator Equal = texts.Equal
text_operator NotEqual = texts.NotEqual
text_operator AtLeast = texts.GreaterEqual
text_operator Above = texts.GreaterThan
text_operator AtMost = texts.LessEqual
text_operator Below = texts.LessThan

-- the term that there is, if any
abbrev pub terms_shown : Option MarkerExpression → List ExpressionRecord
terms_shown found = map expression_of (option_to_list found)
