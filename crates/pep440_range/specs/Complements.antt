-- Where the range of an operator's negation is the complement of the operator's own range.
use Rattle.std.specs.Prelude.{◌≡◌, true}
use Rattle.pep440_version.specs.Record.{VersionRecord}
use Rattle.pep440_version.specs.Changes.{is_prerelease}
use Rattle.pep440_operator.specs.declared.operator.Operator.{Operator}
use Rattle.pep440_operator.specs.declared.operator.Operator.TheVariants.{Equal, EqualStar, ExactEqual}
use Rattle.pep440_operator.specs.declared.operator.Operator.TheVariants.{NotEqual, NotEqualStar, TildeEqual}
use Rattle.pep440_operator.specs.declared.operator.Operator.TheVariants.{LessThan, LessThanEqual}
use Rattle.pep440_operator.specs.declared.operator.Operator.TheVariants.{GreaterThan, GreaterThanEqual}

-- never for `<=` and `>`, which both leave out what lies just above their version; and for `<` and `>=`
-- only with a pre- or developmental release, since `<` leaves out those of another release
abbrev pub IsComplemented : Operator → VersionRecord → Type 0
IsComplemented Equal version = Unit {0}
IsComplemented EqualStar version = Unit {0}
IsComplemented ExactEqual version = Unit {0}
IsComplemented NotEqual version = Unit {0}
IsComplemented NotEqualStar version = Unit {0}
IsComplemented TildeEqual version = ⊥
IsComplemented LessThan version = is_prerelease version ≡ true
IsComplemented LessThanEqual version = ⊥
IsComplemented GreaterThan version = ⊥
IsComplemented GreaterThanEqual version = is_prerelease version ≡ true
