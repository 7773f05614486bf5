-- Diagrams whose text is that of some marker, with whatever meaning (PEP 508, "Environment Markers").
use Rattle.std.specs.Prelude.{[], None}
use Rattle.pep440_text.specs.Record.{VersionRecord}
use Rattle.pep440_text.specs.Printable.{IsPrintable}
use Rattle.pep508_diagram.specs.Diagram.{Diagram}
use Rattle.pep508_diagram.specs.Question.{Question, VersionBelow, TextBelow, IsSet, flag_text}
use Rattle.pep508_reading_back.specs.Diagrams.{StandsAt}
use Rattle.pep508_diagram.specs.Questions.{AllQuestions}
use Rattle.pep508_reading_back.specs.Readable.{IsQuotable}

-- the version as a marker's text has it: without its local part, and without the marks of the ends of ranges
abbrev pub as_written : VersionRecord → VersionRecord
as_written version = record version { local = []; least = None; most = None }

-- a text can have the version
abbrev pub IsSayable : VersionRecord → Type 0
IsSayable version = IsPrintable (as_written version)

-- a text can contain what the question is about
abbrev pub AsksWritably : Question → Type 0
AsksWritably (VersionBelow key boundary) = StandsAt IsSayable boundary
AsksWritably (TextBelow key boundary) = StandsAt IsQuotable boundary
AsksWritably (IsSet flag) = IsQuotable (flag_text flag)

-- the diagram's questions contain only such values
abbrev pub IsWritableDiagram : Diagram Question → Type 0
IsWritableDiagram = AllQuestions AsksWritably
