-- Clauses whose print is read as them, and the markers that are read.
use Rattle.std.specs.Prelude.{◌≡◌, ℕ, ◌<◌, Bool, List, length}
use Rattle.std.specs.List.{AllByRecursion}
use Rattle.pep508_marker.specs.Expression.{ExpressionRecord}
use Rattle.pep508_marker_parser.specs.Formula.{formula_holds}
use Rattle.pep508_marker_parser.specs.MarkerReading.{Marker}
use Rattle.pep508_marker_parser.specs.MarkerText.{IsMarkerText}
use Rattle.pep508_marker_text_laws.specs.Saying.{Clause}
use Rattle.pep508_marker_text_laws.specs.Truth.{one_holds}
use Rattle.pep508_reading_back.specs.Readable.{IsReadable}

-- some comparisons, each of which a text can have
abbrev pub IsReadableClause : Clause → Type 0
IsReadableClause clause = (0 < length clause) × AllByRecursion IsReadable clause

-- some clauses, none of which is empty
abbrev pub AreReadable : List Clause → Type 0
AreReadable clauses = (0 < length clauses) × AllByRecursion IsReadableClause clauses

-- the marker holds where one of the clauses does, whatever holds of comparisons
abbrev pub SaysClauses : List Clause → Marker → Type 0
SaysClauses clauses marker =
    (holds : ExpressionRecord → Bool) → formula_holds holds marker.formula ≡ one_holds holds clauses

-- the characters are those of a marker that holds where one of the clauses does
abbrev pub ReadsClauses : List ℕ → List Clause → Type 0
ReadsClauses cs clauses = (marker : Marker) × IsMarkerText cs marker × SaysClauses clauses marker
