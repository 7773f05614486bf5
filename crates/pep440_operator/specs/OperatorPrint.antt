-- What operators print (PEP 440, "Version specifiers").
use Rattle.std.specs.Prelude.{ℕ, codes, List, []}
use Rattle.pep440_operator.specs.declared.operator.Operator.{Operator}
use Rattle.pep440_operator.specs.declared.operator.Operator.TheVariants.{Equal, EqualStar, ExactEqual}
use Rattle.pep440_operator.specs.declared.operator.Operator.TheVariants.{NotEqual, NotEqualStar, TildeEqual}
use Rattle.pep440_operator.specs.declared.operator.Operator.TheVariants.{LessThan, LessThanEqual}
use Rattle.pep440_operator.specs.declared.operator.Operator.TheVariants.{GreaterThan, GreaterThanEqual}

-- an operator, without the star, which follows the version
abbrev pub operator_text : Operator → List ℕ
operator_text Equal = codes "=="
operator_text EqualStar = codes "=="
operator_text ExactEqual = codes "==="
operator_text NotEqual = codes "!="
operator_text NotEqualStar = codes "!="
operator_text TildeEqual = codes "~="
operator_text LessThan = codes "<"
operator_text LessThanEqual = codes "<="
operator_text GreaterThan = codes ">"
operator_text GreaterThanEqual = codes ">="

-- what follows the version
abbrev pub star_text : Operator → List ℕ
star_text Equal = []
star_text EqualStar = codes ".*"
star_text ExactEqual = []
star_text NotEqual = []
star_text NotEqualStar = codes ".*"
star_text TildeEqual = []
star_text LessThan = []
star_text LessThanEqual = []
star_text GreaterThan = []
star_text GreaterThanEqual = []
