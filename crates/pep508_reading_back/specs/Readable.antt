-- Comparisons whose print is read as them (PEP 508, "Environment Markers").
use Rattle.std.specs.Prelude.{◌≡◌, ◌≢◌, ℕ, ◌==◌, true, false, List, [], ◌∷◌, All, Some, None}
use Rattle.std.specs.Str.{chars, IsUtf8}
use Rattle.pep440_operator.specs.declared.operator.Operator.TheVariants.{ExactEqual}
use Rattle.pep440_specifier.specs.Building.{IsBuilt}
use Rattle.pep440_specifier.specs.Matching.{SpecifierRecord}
use Rattle.pep440_text.specs.Printable.{IsPrintable}
use Rattle.pep508_name.specs.Name.{name_of}
use Rattle.pep508_marker.specs.declared.operators.MarkerOperator.TheVariants.{TildeEqual}
use Rattle.pep508_marker.specs.declared.warnings.MarkerWarningKind.{MarkerWarningKind}
use Rattle.pep508_marker.specs.declared.warnings.MarkerWarningKind.TheVariants.{ExtraInvalidComparison}
use Rattle.pep508_marker.specs.Expression.{ExpressionRecord, Version, VersionIn, String, Extra}
use Rattle.pep508_marker.specs.Keys.{is_deprecated}
use Rattle.pep508_marker.specs.Values.{ExtraRecord, Name, Arbitrary}
use Rattle.pep508_expression.specs.Expressions.{has_points}
use Rattle.pep508_marker_parser.specs.Formula.{Says}
use Rattle.pep508_marker_parser.specs.MarkerReading.{Marker}

-- no character of it is a single quote
abbrev pub IsUnquoted : List ℕ → Type 0
IsUnquoted text = All (λ c. (c == 39) ≡ false) (chars text)

-- a text that is allowed between single quotes
pub record IsQuotable (text : List ℕ) : Type 0 where
  pub encoded : IsUtf8 text
  pub unquoted : IsUnquoted text

-- an operator and a version that go together and that a text can have
pub record IsPrintableSpecifier (specifier : SpecifierRecord) : Type 0 where
  pub printable : IsPrintable specifier.version
  pub built : IsBuilt specifier

-- a specifier that a marker can contain, which has no operator `===`
pub record IsReadableSpecifier (specifier : SpecifierRecord) : Type 0 where
  pub printed : IsPrintableSpecifier specifier
  pub in_markers : specifier.operator ≢ ExactEqual

-- a name in normal form, or a text that is not a name
abbrev pub IsReadableExtra : ExtraRecord → Type 0
IsReadableExtra (Name name) = name_of name ≡ Some name
IsReadableExtra (Arbitrary text) = (name_of text ≡ None) × IsQuotable text

-- a comparison that a text can contain; the numbers of its version can be raised. An old name of a key
-- prints as the modern one, and a clause contains no list of versions
abbrev pub IsReadable : ExpressionRecord → Type 0
IsReadable (Version key specifier) =
    IsReadableSpecifier specifier × (has_points (Version key specifier) ≡ true)
IsReadable (VersionIn key versions negated) = ⊥
IsReadable (String key operator text) =
    (is_deprecated key ≡ false) × (operator ≢ TildeEqual) × IsQuotable text
IsReadable (Extra operator asked) = IsReadableExtra asked

-- an extra whose text is not a name gets a warning
abbrev pub warned_extra : ExtraRecord → List MarkerWarningKind
warned_extra (Name name) = []
warned_extra (Arbitrary text) = ExtraInvalidComparison ∷ []

abbrev pub warned_of : ExpressionRecord → List MarkerWarningKind
warned_of (Version key specifier) = []
warned_of (VersionIn key versions negated) = []
warned_of (String key operator text) = []
warned_of (Extra operator asked) = warned_extra asked

-- the marker of one comparison, and nothing else
abbrev pub marker_of : ExpressionRecord → Marker
marker_of term = record { formula = Says term; warned = warned_of term }
