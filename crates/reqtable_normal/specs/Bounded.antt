-- The normal text of requirement lines within a bound on the clauses of each line's marker.
use Rattle.std.specs.Prelude.{◌≡◌, ℕ, Bool, true, false, List, ◌∷◌, ◌++◌, nat_lt}
use Rattle.std.specs.Prelude.{Option, Some, None, Result, Ok, Err, String}
use Rattle.std.specs.List.{AllByRecursion}
use Rattle.std.specs.String.{string_bytes}
use Rattle.pep508_diagram.specs.Diagram.{Diagram}
use Rattle.pep508_diagram.specs.Question.{Question}
use Rattle.pep508_marker_display.specs.Counted.{clause_count}
use Rattle.reqtable_requirements.specs.LineReading.{LineRecord}
use Rattle.reqtable_normal.specs.declared.error.NormalCause.{NormalCause}
use Rattle.reqtable_normal.specs.declared.error.NormalError.{NormalError}
use Rattle.reqtable_normal.specs.declared.error.NormalError.TheVariants.{Line, TooManyClauses, Memory}
use Rattle.reqtable_normal.specs.Normalized.{NormalLine, IsNormalOf, IsNormalText, normal_fault}

-- a diagram has more clauses than a bound allows, where there is one
abbrev pub exceeds : Option ℕ → Diagram Question → Bool
exceeds None diagram = false
exceeds (Some most) diagram = nat_lt most (clause_count diagram)

abbrev pub error_by : ℕ → Option NormalCause → Bool → Option NormalError
error_by number (Some cause) more = Some (Line number cause)
error_by number None true = Some (TooManyClauses number)
error_by number None false = None

-- the error for a line of this number: its fault, and then that its marker has more clauses
abbrev pub line_error : Option ℕ → ℕ → NormalLine → Option NormalError
line_error most number line = error_by number (normal_fault line) (exceeds most line.diagram)

-- the line has a normal text, and its marker no more clauses than the bound allows
pub record IsPrintable (most : Option ℕ) (line : LineRecord) : Type 0 where
  pub normal : NormalLine
  pub is_normal : IsNormalOf line normal
  pub no_error : line_error most line.number normal ≡ None

-- the error is that of the first line that is not printable
pub record IsFirstError (most : Option ℕ) (said : List LineRecord) (error : NormalError) : Type 0 where
  pub front : List LineRecord
  pub line : LineRecord
  pub back : List LineRecord
  pub normal : NormalLine
  pub split : said ≡ front ++ line ∷ back
  pub before : AllByRecursion (IsPrintable most) front
  pub is_normal : IsNormalOf line normal
  pub is_error : line_error most line.number normal ≡ Some error

-- the result for lines: their normal text, where all are printable, or the error of the first that is not, or
-- out of memory
abbrev pub NormalizesWithin : {Y : Type 0} → Option ℕ → List LineRecord → Result (String Y) NormalError
    → Type 0
NormalizesWithin most said (Ok text) =
    AllByRecursion (IsPrintable most) said × IsNormalText said (string_bytes text)
NormalizesWithin most said (Err (Line number cause)) = IsFirstError most said (Line number cause)
NormalizesWithin most said (Err (TooManyClauses number)) = IsFirstError most said (TooManyClauses number)
NormalizesWithin most said (Err Memory) = Unit {0}
