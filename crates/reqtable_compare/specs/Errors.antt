-- The messages for two lists that were not compared.
use Rattle.std.specs.Prelude.{ℕ, List, ◌++◌, codes}
use Rattle.std.specs.Fmt.{decimal}
use Rattle.reqtable_compare.specs.declared.sides.LineCause.{LineCause}
use Rattle.reqtable_compare.specs.declared.sides.LineCause.TheVariants.{Url, ExactEqual}
use Rattle.reqtable_compare.specs.declared.sides.LineCause.TheVariants.{PostAfterBound, NumberAtEnd}
use Rattle.reqtable_compare.specs.declared.sides.SameError.{SameError}
use Rattle.reqtable_compare.specs.declared.sides.SameError.TheVariants.{Line, TooManyCases, Memory}
use Rattle.reqtable_compare.specs.declared.sides.SameError.TheVariants.{TooManyCasesInAll}
use Rattle.reqtable_compare.specs.declared.sides.Side.{Side}
use Rattle.reqtable_compare.specs.declared.sides.Side.TheVariants.{Left, Right}

abbrev pub cause_text : LineCause → List ℕ
cause_text Url = codes "URL"
cause_text ExactEqual = codes "==="
cause_text PostAfterBound = codes "post-release after a bound"
cause_text NumberAtEnd = codes "a version number can't be raised"

abbrev pub side_text : Side → List ℕ
side_text Left = codes "left"
side_text Right = codes "right"

abbrev pub same_error_text : SameError → List ℕ
same_error_text (Line side number cause) =
    side_text side ++ codes " list: line " ++ decimal number ++ codes ": " ++ cause_text cause
same_error_text (TooManyCases side name) =
    side_text side ++ codes " list: " ++ name ++ codes ": too many cases"
same_error_text (TooManyCasesInAll side) = side_text side ++ codes " list: too many cases in all"
same_error_text Memory = codes "out of memory"
