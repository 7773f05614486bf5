-- Diagrams whose text is read with their meaning.
use Rattle.std.specs.Prelude.{◌≡◌, ℕ, ◌<◌, false, List, length, Some, None}
use Rattle.version_ranges.specs.declared.boundary.Boundary.{Boundary}
use Rattle.version_ranges.specs.declared.boundary.Boundary.TheVariants.{At, JustAbove}
use Rattle.pep440_text.specs.Record.{VersionRecord}
use Rattle.pep508_name.specs.Name.{name_of}
use Rattle.pep508_marker.specs.declared.keys.MarkerValueString.{MarkerValueString}
use Rattle.pep508_marker.specs.Keys.{is_deprecated}
use Rattle.pep508_diagram.specs.declared.variable.Flag.{Flag}
use Rattle.pep508_diagram.specs.declared.variable.Flag.TheVariants.{In, Contains, Extra, Arbitrary}
use Rattle.pep508_diagram.specs.Diagram.{Diagram}
use Rattle.pep508_diagram.specs.Question.{Question, VersionBelow, TextBelow, IsSet, Valuation, truth}
use Rattle.pep508_expression.specs.Expressions.{expression_holds}
use Rattle.pep508_marker_parser.specs.Formula.{formula_holds}
use Rattle.pep508_marker_parser.specs.MarkerReading.{Marker}
use Rattle.pep508_marker_parser.specs.MarkerText.{IsMarkerText}
use Rattle.pep508_marker_text_laws.specs.ReleaseBounds.{IsPlainRelease}
use Rattle.pep508_diagram.specs.Questions.{AllQuestions}
use Rattle.pep508_reading_back.specs.Readable.{IsQuotable}

-- a version of epoch 0 and one release number or more
abbrev pub IsReadableVersion : VersionRecord → Type 0
IsReadableVersion version = IsPlainRelease version × (0 < length version.release)

-- a text compared with a key that is not an old name
abbrev pub IsReadableText : MarkerValueString → List ℕ → Type 0
IsReadableText key text = (is_deprecated key ≡ false) × IsQuotable text

abbrev pub StandsAt : {T : Type 0} → (T → Type 0) → Boundary T → Type 0
StandsAt good (At value) = good value
StandsAt good (JustAbove value) = good value

abbrev pub IsReadableFlag : Flag → Type 0
IsReadableFlag (In key text) = IsReadableText key text
IsReadableFlag (Contains key text) = IsReadableText key text
IsReadableFlag (Extra name) = name_of name ≡ Some name
IsReadableFlag (Arbitrary text) = (name_of text ≡ None) × IsQuotable text

abbrev pub AsksReadably : Question → Type 0
AsksReadably (VersionBelow key boundary) = StandsAt IsReadableVersion boundary
AsksReadably (TextBelow key boundary) = StandsAt (IsReadableText key) boundary
AsksReadably (IsSet flag) = IsReadableFlag flag

-- the diagram's questions contain only such values
abbrev pub IsReadableDiagram : Diagram Question → Type 0
IsReadableDiagram = AllQuestions AsksReadably

-- the marker holds where the diagram does
abbrev pub SaysDiagram : Diagram Question → Marker → Type 0
SaysDiagram diagram marker =
    (v : Valuation) → formula_holds (λ term. expression_holds term v) marker.formula ≡ truth diagram v

-- the characters are those of a marker that holds where the diagram does
abbrev pub ReadsDiagram : List ℕ → Diagram Question → Type 0
ReadsDiagram cs diagram = (marker : Marker) × IsMarkerText cs marker × SaysDiagram diagram marker
