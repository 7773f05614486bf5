-- Diagrams of which no text has a single quote, so that a text can have each of them between two.
use Rattle.std.specs.Prelude.{◌≡◌, ◌≢◌, false}
use Rattle.pep508_marker.specs.Keys.{is_deprecated}
use Rattle.pep508_marker_text_laws.specs.ReleaseBounds.{HasReleasesAlone}
use Rattle.pep508_diagram.specs.declared.variable.Flag.{Flag}
use Rattle.pep508_diagram.specs.declared.variable.Flag.TheVariants.{In, Contains, Extra, Arbitrary}
use Rattle.pep508_diagram.specs.Diagram.{Diagram, Leaf}
use Rattle.pep508_diagram.specs.Question.{Question, VersionBelow, TextBelow, IsSet}
use Rattle.pep508_reading_back.specs.Diagrams.{StandsAt}
use Rattle.pep508_diagram.specs.Questions.{AllQuestions}
use Rattle.pep508_reading_back.specs.Readable.{IsUnquoted}

-- a name has no quote
abbrev pub IsUnquotedFlag : Flag → Type 0
IsUnquotedFlag (In key text) = IsUnquoted text
IsUnquotedFlag (Contains key text) = IsUnquoted text
IsUnquotedFlag (Extra name) = Unit {0}
IsUnquotedFlag (Arbitrary text) = IsUnquoted text

abbrev pub AsksUnquoted : Question → Type 0
AsksUnquoted (VersionBelow key boundary) = Unit {0}
AsksUnquoted (TextBelow key boundary) = StandsAt IsUnquoted boundary
AsksUnquoted (IsSet flag) = IsUnquotedFlag flag

-- no text in a question of the diagram has a single quote
abbrev pub IsUnquotedDiagram : Diagram Question → Type 0
IsUnquotedDiagram = AllQuestions AsksUnquoted

abbrev pub IsModernFlag : Flag → Type 0
IsModernFlag (In key text) = is_deprecated key ≡ false
IsModernFlag (Contains key text) = is_deprecated key ≡ false
IsModernFlag (Extra name) = Unit {0}
IsModernFlag (Arbitrary text) = Unit {0}

abbrev pub AsksOfModernKey : Question → Type 0
AsksOfModernKey (VersionBelow key boundary) = Unit {0}
AsksOfModernKey (TextBelow key boundary) = is_deprecated key ≡ false
AsksOfModernKey (IsSet flag) = IsModernFlag flag

-- texts without a single quote, versions that are releases of epoch 0, and keys that are no old names; and it
-- sometimes holds
pub record IsPlainDiagram (diagram : Diagram Question) : Type 0 where
  pub unquoted : IsUnquotedDiagram diagram
  pub releases : HasReleasesAlone diagram
  pub keys : AllQuestions AsksOfModernKey diagram
  pub sometimes : diagram ≢ Leaf false
