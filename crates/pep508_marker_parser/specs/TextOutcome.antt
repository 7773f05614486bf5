-- The results of reading a text as a marker.
use Rattle.std.specs.Prelude.{◌≡◌, ℕ, List, Result, Ok, Err}
use Rattle.pep508_marker.specs.Warnings.{Warning}
use Rattle.pep508_marker.specs.Expression.{ExpressionRecord}
use Rattle.pep508_formula.specs.Postfix.{Part, formula_of}
use Rattle.pep508_tree.specs.Tree.{Tree}
use Rattle.pep508_tree.specs.Meaning.{NodeRecord}
use Rattle.pep508_error.specs.declared.error.Pep508Error.{Pep508Error}
use Rattle.pep508_error.specs.Errors.{told_error}
use Rattle.pep508_comparison_parser.specs.SideReading.{Refused}
use Rattle.pep508_comparison_parser.specs.Outcome.{IsWarned, Shows}
use Rattle.pep508_marker_parser.specs.MarkerReading.{Marker}
use Rattle.pep508_marker_parser.specs.MarkerOutcome.{IsTreeOf}

-- the result is the marker that a text is: its tree, its warnings received; or an error for its reason
abbrev pub ReadsMarkerText : {S R T E : Type 0} → (S → Tree) → (R → Warning → R → Type 0) → R → R
    → List NodeRecord → List ℕ → Result S (Pep508Error T E) → Result Marker Refused → Type 0
ReadsMarkerText named takes old new nodes text (Ok tree) reading =
    (marker : Marker) × (reading ≡ Ok marker) × IsTreeOf nodes (named tree) marker.formula
    × IsWarned takes old new marker.warned
ReadsMarkerText named takes old new nodes text (Err error) reading = Shows text (told_error error) reading

-- the result is the marker that a text is: its formula, its warnings received; or an error for its reason
abbrev pub SaysMarkerText : {R T E : Type 0} → (R → Warning → R → Type 0) → R → R → List ℕ
    → Result (List (Part ExpressionRecord)) (Pep508Error T E) → Result Marker Refused → Type 0
SaysMarkerText takes old new text (Ok parts) reading =
    (marker : Marker) × (reading ≡ Ok marker) × (formula_of parts ≡ marker.formula)
    × IsWarned takes old new marker.warned
SaysMarkerText takes old new text (Err error) reading = Shows text (told_error error) reading
