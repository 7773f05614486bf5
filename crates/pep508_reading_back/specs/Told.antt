-- The questions on which a marker that was read depends, and the values in them: what a text can express.
use Rattle.std.specs.Prelude.{◌≡◌, ℕ, List, [], ◌∷◌, ◌++◌, Some, None, option_to_list}
use Rattle.std.specs.List.{flat_map}
use Rattle.std.specs.Str.{IsUtf8}
use Rattle.version_ranges.specs.declared.boundary.Boundary.TheVariants.{At, JustAbove}
use Rattle.pep440_text.specs.Printable.{IsPrintable}
use Rattle.pep440_text.specs.Record.{VersionRecord, release_record}
use Rattle.pep440_version.specs.Changes.{or_zero}
use Rattle.pep440_text.specs.Releases.{last_raised}
use Rattle.pep440_version.specs.Order.{stripped}
use Rattle.pep440_specifier.specs.Matching.{without_last}
use Rattle.pep508_name.specs.Name.{name_of}
use Rattle.pep508_marker.specs.declared.keys.MarkerValueVersion.{MarkerValueVersion}
use Rattle.pep508_marker.specs.declared.keys.MarkerValueString.{MarkerValueString}
use Rattle.pep508_marker.specs.Expression.{ExpressionRecord, Version, VersionIn, String, Extra}
use Rattle.pep508_comparison.specs.Comparisons.{minor_of}
use Rattle.pep508_diagram.specs.declared.variable.Flag.{Flag}
use Rattle.pep508_diagram.specs.declared.variable.Flag.TheVariants as flag
use Rattle.pep508_diagram.specs.Question.{Question, VersionBelow, TextBelow, IsSet}
use Rattle.pep508_expression.specs.Expressions.{variable_of, extra_flag}
use Rattle.pep508_marker_parser.specs.Formula.{Formula, Says, LeftOut, Both, Either}
use Rattle.pep508_reading_back.specs.Diagrams.{StandsAt}

-- ---- all questions that a comparison can have, by whatever operator

-- the numbers with the last of them raised, if there are such
abbrev pub next_release : List ℕ → List (List ℕ)
next_release numbers = option_to_list (last_raised numbers)

-- release numbers, the first two of them, and where what begins with them ends
abbrev pub releases_beside : List ℕ → List (List ℕ)
releases_beside numbers =
    numbers ∷ minor_of numbers
    ∷ (next_release numbers ++ (next_release (without_last numbers) ++ next_release (minor_of numbers)))

-- with the zeros at their end, and without them
abbrev pub asked_releases : List ℕ → List (List ℕ)
asked_releases numbers = releases_beside numbers ++ releases_beside (or_zero (stripped numbers))

-- whether the key's version lies below this one, and whether just above it or below
abbrev pub version_questions : MarkerValueVersion → VersionRecord → List Question
version_questions key version =
    VersionBelow (variable_of key) (At version) ∷ VersionBelow (variable_of key) (JustAbove version) ∷ []

abbrev pub release_questions : MarkerValueVersion → List ℕ → List Question
release_questions key numbers =
    flat_map (λ release. version_questions key (release_record release)) (asked_releases numbers)

abbrev pub listed_questions : MarkerValueVersion → VersionRecord → List Question
listed_questions key version = version_questions key version ++ release_questions key version.release

abbrev pub text_questions : MarkerValueString → List ℕ → List Question
text_questions key text =
    TextBelow key (At text) ∷ TextBelow key (JustAbove text) ∷ IsSet (flag.In key text)
    ∷ IsSet (flag.Contains key text) ∷ []

-- the questions whose answers decide whether the comparison holds
abbrev pub questions_of_term : ExpressionRecord → List Question
questions_of_term (Version key specifier) = release_questions key specifier.version.release
questions_of_term (VersionIn key versions negated) = flat_map (listed_questions key) versions
questions_of_term (String key operator text) = text_questions key text
questions_of_term (Extra operator asked) = IsSet (extra_flag asked) ∷ []

-- and to these, whether the formula does
abbrev pub questions_of : Formula ExpressionRecord → List Question
questions_of (Says term) = questions_of_term term
questions_of LeftOut = []
questions_of (Both f g) = questions_of f ++ questions_of g
questions_of (Either f g) = questions_of f ++ questions_of g

-- ---- what a text can express

-- an extra is named by its normal name, and otherwise by a text that is not a name
abbrev pub IsFlagOf : (List ℕ → Type 0) → Flag → Type 0
IsFlagOf good (flag.In key text) = good text
IsFlagOf good (flag.Contains key text) = good text
IsFlagOf good (flag.Extra name) = name_of name ≡ Some name
IsFlagOf good (flag.Arbitrary text) = good text × (name_of text ≡ None)

-- a version that a text can express, and a text that meets the condition
abbrev pub AsksOf : (List ℕ → Type 0) → Question → Type 0
AsksOf good (VersionBelow key boundary) = StandsAt IsPrintable boundary
AsksOf good (TextBelow key boundary) = StandsAt good boundary
AsksOf good (IsSet asked) = IsFlagOf good asked

-- a version and a text that a text can express
abbrev pub IsTold : Question → Type 0
IsTold = AsksOf IsUtf8
