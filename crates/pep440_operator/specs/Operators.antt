-- The meaning of operators for their versions (PEP 440, "Version specifiers").
use Rattle.std.specs.Prelude.{Bool, true, false, Option, Some, None}
use Rattle.pep440_operator.specs.declared.operator.Operator.{Operator}
use Rattle.pep440_operator.specs.declared.operator.Operator.TheVariants.{Equal, EqualStar, ExactEqual}
use Rattle.pep440_operator.specs.declared.operator.Operator.TheVariants.{NotEqual, NotEqualStar, TildeEqual}
use Rattle.pep440_operator.specs.declared.operator.Operator.TheVariants.{LessThan, LessThanEqual}
use Rattle.pep440_operator.specs.declared.operator.Operator.TheVariants.{GreaterThan, GreaterThanEqual}

-- whether a star follows the version
abbrev pub is_star : Operator → Bool
is_star Equal = false
is_star EqualStar = true
is_star ExactEqual = false
is_star NotEqual = false
is_star NotEqualStar = true
is_star TildeEqual = false
is_star LessThan = false
is_star LessThanEqual = false
is_star GreaterThan = false
is_star GreaterThanEqual = false

-- whether the version may have a local part
-- (PEP 440, "Version matching", "Version exclusion" and "Arbitrary equality")
abbrev pub takes_local : Operator → Bool
takes_local Equal = true
takes_local EqualStar = false
takes_local ExactEqual = true
takes_local NotEqual = true
takes_local NotEqualStar = false
takes_local TildeEqual = false
takes_local LessThan = false
takes_local LessThanEqual = false
takes_local GreaterThan = false
takes_local GreaterThanEqual = false

-- whether the version needs two release numbers (PEP 440, "Compatible release")
abbrev pub is_tilde : Operator → Bool
is_tilde Equal = false
is_tilde EqualStar = false
is_tilde ExactEqual = false
is_tilde NotEqual = false
is_tilde NotEqualStar = false
is_tilde TildeEqual = true
is_tilde LessThan = false
is_tilde LessThanEqual = false
is_tilde GreaterThan = false
is_tilde GreaterThanEqual = false

-- the operator with a star after its version, where there is one
abbrev pub starred : Operator → Option Operator
starred Equal = Some EqualStar
starred EqualStar = None
starred ExactEqual = None
starred NotEqual = Some NotEqualStar
starred NotEqualStar = None
starred TildeEqual = None
starred LessThan = None
starred LessThanEqual = None
starred GreaterThan = None
starred GreaterThanEqual = None

-- the operator of the negated sign: `!=` for `==` and `===`, `>=` for `<`, and none for `~=`
abbrev pub negated : Operator → Option Operator
negated Equal = Some NotEqual
negated EqualStar = Some NotEqualStar
negated ExactEqual = Some NotEqual
negated NotEqual = Some Equal
negated NotEqualStar = Some EqualStar
negated TildeEqual = None
negated LessThan = Some GreaterThanEqual
negated LessThanEqual = Some GreaterThan
negated GreaterThan = Some LessThanEqual
negated GreaterThanEqual = Some LessThan

-- whether the operator's version is a lower bound of the accepted versions, as in `>=1.2` and `==1.2`
abbrev pub bounds_below : Operator → Bool
bounds_below Equal = true
bounds_below EqualStar = true
bounds_below ExactEqual = true
bounds_below NotEqual = false
bounds_below NotEqualStar = false
bounds_below TildeEqual = true
bounds_below LessThan = false
bounds_below LessThanEqual = false
bounds_below GreaterThan = true
bounds_below GreaterThanEqual = true
