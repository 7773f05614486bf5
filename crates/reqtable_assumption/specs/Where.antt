-- Lists where a condition holds: what they require is asked in no other environment.
use Rattle.std.specs.Prelude.{◌≡◌, ℕ, Bool, true, List, map}
use Rattle.std.specs.List.{list_any, AllByRecursion}
use Rattle.std.specs.List.Sorted.{IsStrictlySortedBy}
use Rattle.pep508_marker.specs.Expression.{ExpressionRecord}
use Rattle.pep508_marker_parser.specs.Formula.{Formula, Both, formula_holds}
use Rattle.pep508_diagram.specs.Question.{Valuation}
use Rattle.pep508_expression.specs.Expressions.{expression_holds}
use Rattle.pep508_cases.specs.Cases.{Marks, same_marks, marks_cmp}
use Rattle.reqtable_requirements.specs.LineReading.{LineRecord}
use Rattle.reqtable_cases.specs.Conflicts.{IsConflict, told_of}
use Rattle.reqtable_cases.specs.Lines.{line_marks, asked_by}
use Rattle.reqtable_cases.specs.Requires.{RequireAlike, asked_of}
use Rattle.reqtable_compare.specs.Relations.{IsCovered}

-- a condition on environments and extras, the formula of a marker (PEP 508, "Environment Markers")
abbrev pub Condition : Type 0
Condition = Formula ExpressionRecord

abbrev pub is_met : Condition → Valuation → Bool
is_met formula v = formula_holds (λ e. expression_holds e v) formula

-- a line that applies only where the condition holds too, as if its marker were joined with it by `and`
abbrev pub line_where : Condition → LineRecord → LineRecord
line_where formula line =
    record { number = line.number; front = line.front; formula = Both line.formula formula }

abbrev pub lines_where : Condition → List LineRecord → List LineRecord
lines_where formula lines = map (line_where formula) lines

-- lines require the same of every package under every valuation under which the condition holds
abbrev pub RequireTheSameWhere : Condition → List LineRecord → List LineRecord → Type 0
RequireTheSameWhere formula left right = (name : List ℕ) (v : Valuation) → is_met formula v ≡ true →
    RequireAlike (asked_of name v left) (asked_of name v right)

-- whatever lines require of a package under such a valuation is covered by what the lock requires of it there
abbrev pub CoversLinesWhere : Condition → List LineRecord → List LineRecord → Type 0
CoversLinesWhere formula lock lines = (name : List ℕ) (v : Valuation) → is_met formula v ≡ true →
    IsCovered (asked_of name v lock) (asked_of name v lines)

-- just a set's lines apply under some valuation under which the condition holds
abbrev pub IsRealisedWhere : Condition → List LineRecord → Marks → Type 0
IsRealisedWhere formula lines set =
    (v : Valuation) × (is_met formula v ≡ true) × (line_marks lines v ≡ set)

-- the conflicts of a package's lines in cases that there are where the condition holds, each once and in the
-- order of cases
pub record AreConflictsWhere (formula : Condition) (lines : List LineRecord) (found : List (List ℕ × Bool))
    : Type 0 where
  pub sets : List Marks
  pub rising : IsStrictlySortedBy marks_cmp sets
  pub realised : AllByRecursion (IsRealisedWhere formula lines) sets
  pub conflicts : AllByRecursion (λ set. IsConflict (asked_by set lines)) sets
  pub all : (v : Valuation) → is_met formula v ≡ true →
      IsConflict (asked_by (line_marks lines v) lines) →
      list_any (same_marks (line_marks lines v)) sets ≡ true
  pub told : found ≡ map (λ set. told_of set lines) sets
