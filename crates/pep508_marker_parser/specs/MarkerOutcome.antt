-- The results of reading a marker, for each reading of its text.
use Rattle.std.specs.Prelude.{◌≡◌, List, Result, Ok, Err}
use Rattle.pep508_marker.specs.Warnings.{Warning}
use Rattle.pep508_marker.specs.Expression.{ExpressionRecord}
use Rattle.pep508_tree.specs.Tree.{Tree}
use Rattle.pep508_tree.specs.Meaning.{NodeRecord}
use Rattle.pep508_tree.specs.Truths as truths
use Rattle.pep508_expression.specs.Expressions.{expression_holds}
use Rattle.pep508_error.specs.declared.refusal.Refusal.{Refusal}
use Rattle.pep508_comparison_parser.specs.SideReading.{Refused}
use Rattle.pep508_comparison_parser.specs.Outcome.{Tells, IsWarned}
use Rattle.pep508_formula.specs.Postfix.{Part, formula_of}
use Rattle.pep508_marker_parser.specs.Formula.{Formula, formula_holds}
use Rattle.pep508_marker_parser.specs.MarkerReading.{Marker}

-- a tree of these nodes that holds where the formula does
abbrev pub IsTreeOf : List NodeRecord → Tree → Formula ExpressionRecord → Type 0
IsTreeOf nodes tree formula =
    truths.IsTreeOf nodes (λ v. formula_holds (λ e. expression_holds e v) formula) tree

-- the result is the reading: a tree of its formula, its warnings received; or a refusal for its reason
abbrev pub ReadsMarker : {R : Type 0} → (R → Warning → R → Type 0) → R → R → List NodeRecord
    → Result Tree Refusal → Result Marker Refused → Type 0
ReadsMarker takes old new nodes (Ok tree) reading =
    (marker : Marker) × (reading ≡ Ok marker) × IsTreeOf nodes tree marker.formula
    × IsWarned takes old new marker.warned
ReadsMarker takes old new nodes (Err refusal) reading = Tells refusal.kind reading

-- the result is the reading: its formula, its warnings received; or a refusal for its reason
abbrev pub SaysMarker : {R : Type 0} → (R → Warning → R → Type 0) → R → R
    → Result (List (Part ExpressionRecord)) Refusal → Result Marker Refused → Type 0
SaysMarker takes old new (Ok parts) reading =
    (marker : Marker) × (reading ≡ Ok marker) × (formula_of parts ≡ marker.formula)
    × IsWarned takes old new marker.warned
SaysMarker takes old new (Err refusal) reading = Tells refusal.kind reading
