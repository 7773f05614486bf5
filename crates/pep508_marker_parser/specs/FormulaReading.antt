-- The results of the readers of a marker's formula, for each reading of its text.
use Rattle.std.specs.Prelude.{◌≡◌, List, Some, None, Result, Ok, Err}
use Rattle.pep508_marker.specs.Warnings.{Warning}
use Rattle.pep508_marker.specs.Expression.{ExpressionRecord}
use Rattle.pep508_formula.specs.Postfix.{Part, formula_of}
use Rattle.pep508_formula.specs.declared.formula_builder.FormulaBuilder.{FormulaBuilder}
use Rattle.pep508_formula.specs.Building as building
use Rattle.pep508_error.specs.Cursors.{behind}
use Rattle.pep508_error.specs.declared.cursor.Cursor.{Cursor}
use Rattle.pep508_error.specs.declared.refusal.Refusal.{Refusal}
use Rattle.pep508_comparison_parser.specs.SideReading.{Reading}
use Rattle.pep508_comparison_parser.specs.Outcome.{Tells, IsWarned}
use Rattle.pep508_marker_parser.specs.Formula.{Formula}
use Rattle.pep508_marker_parser.specs.MarkerReading.{Marker}

-- the result is the reading: its very formula, and the place after it; or a refusal for its reason
abbrev pub ReadsFormula : {R : Type 0} → (R → Warning → R → Type 0) → R → R
    → Result (List (Part ExpressionRecord) × Cursor) Refusal → Reading Marker → Type 0
ReadsFormula takes old new (Ok found) reading =
    (marker : Marker) × (reading ≡ Ok (marker, behind found.1)) × (formula_of found.0 ≡ marker.formula)
    × IsWarned takes old new marker.warned
ReadsFormula takes old new (Err refusal) reading = Tells refusal.kind reading

-- the formula is the next piece
abbrev pub IsNextPiece : FormulaBuilder → FormulaBuilder → Formula ExpressionRecord → Type 0
IsNextPiece before after formula =
    (begun : building.Begun) (waiting : List building.Begun)
    → building.Stands before None begun waiting → building.Stands after (Some formula) begun waiting

-- a piece was read, and is the next piece
abbrev pub ReadsPiece : {R : Type 0} → (R → Warning → R → Type 0) → R → R → FormulaBuilder → FormulaBuilder
    → Result Cursor Refusal → Reading Marker → Type 0
ReadsPiece takes old new before after (Ok later) reading =
    (marker : Marker) × (reading ≡ Ok (marker, behind later)) × IsNextPiece before after marker.formula
    × IsWarned takes old new marker.warned
ReadsPiece takes old new before after (Err refusal) reading = Tells refusal.kind reading
