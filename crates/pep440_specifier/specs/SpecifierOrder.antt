-- The order of specifiers: by operator, then by version.
use Rattle.std.specs.Prelude.{ℕ, Bool, List, [], ◌∷◌}
use Rattle.std.specs.declared.cmp.Ordering.{Ordering}
use Rattle.std.specs.Ordering.{on, eq_by_cmp}
use Rattle.pep440_version.specs.Order.{key_of, key_cmp}
use Rattle.pep440_operator.specs.declared.operator.Operator.{Operator}
use Rattle.pep440_operator.specs.declared.operator.Operator.TheVariants.{Equal, EqualStar, ExactEqual}
use Rattle.pep440_operator.specs.declared.operator.Operator.TheVariants.{NotEqual, NotEqualStar, TildeEqual}
use Rattle.pep440_operator.specs.declared.operator.Operator.TheVariants.{LessThan, LessThanEqual}
use Rattle.pep440_operator.specs.declared.operator.Operator.TheVariants.{GreaterThan, GreaterThanEqual}
use Rattle.pep440_specifier.specs.Matching.{SpecifierRecord}

-- the operators' order
abbrev pub operator_rank : Operator → ℕ
operator_rank Equal = 0
operator_rank EqualStar = 1
operator_rank ExactEqual = 2
operator_rank NotEqual = 3
operator_rank NotEqualStar = 4
operator_rank TildeEqual = 5
operator_rank LessThan = 6
operator_rank LessThanEqual = 7
operator_rank GreaterThan = 8
operator_rank GreaterThanEqual = 9

-- the components of a specifier: its operator, then those of its version
unfoldable pub specifier_key : SpecifierRecord → List (List ℕ)
specifier_key specifier = (operator_rank specifier.operator ∷ []) ∷ key_of specifier.version

-- the order of specifiers
abbrev pub specifier_cmp : SpecifierRecord → SpecifierRecord → Ordering
specifier_cmp = on specifier_key key_cmp

abbrev pub specifier_eq : SpecifierRecord → SpecifierRecord → Bool
specifier_eq = eq_by_cmp specifier_cmp
