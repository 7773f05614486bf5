-- The text of a specifier: an operator and a pattern, with white space around each
-- (PEP 440, "Version specifiers").
use Rattle.std.specs.Prelude.{◌≡◌, ℕ, false, List, ◌++◌, IsTrue, Ok}
use Rattle.std.specs.Char.{is_whitespace}
use Rattle.std.specs.List.{AllByRecursion}
use Rattle.std.specs.Str.{chars}
use Rattle.pep440_version.specs.Record.{PatternRecord}
use Rattle.pep440_version.specs.Text.{IsPatternText}
use Rattle.pep440_operator.specs.declared.operator.Operator.{Operator}
use Rattle.pep440_specifier.specs.Matching.{SpecifierRecord}
use Rattle.pep440_operator.specs.Operators.{is_star}
use Rattle.pep440_specifier.specs.Building.{built_of_pattern}
use Rattle.pep440_operator.specs.OperatorPrint.{operator_text}

-- white space, of any script
abbrev pub AreSpaces : List ℕ → Type 0
AreSpaces = AllByRecursion (λ c. IsTrue (is_whitespace c))

-- no white space
abbrev pub HasNoSpace : List ℕ → Type 0
HasNoSpace = AllByRecursion (λ c. is_whitespace c ≡ false)

-- the characters of a text are those of a specifier
pub record IsSpecifierText (text : List ℕ) (specifier : SpecifierRecord) : Type 0 where
  pub before : List ℕ
  pub operator : Operator
  pub between : List ℕ
  pub written : List ℕ
  pub pattern : PatternRecord
  pub after : List ℕ
  pub split : chars text ≡ before ++ (operator_text operator ++ (between ++ (written ++ after)))
  pub spaces_before : AreSpaces before
  pub starless : is_star operator ≡ false
  pub spaces_between : AreSpaces between
  pub is_pattern : IsPatternText written pattern
  pub unspaced : HasNoSpace written
  pub spaces_after : AreSpaces after
  pub builds : built_of_pattern operator pattern ≡ Ok specifier
