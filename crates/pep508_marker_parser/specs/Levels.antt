-- Formulas that were begun, each but the last waiting for the end of the next, and how reading continues.
use Rattle.std.specs.Prelude.{◌≡◌, ℕ, suc, ◌+◌, ◌*◌, List, [], ◌∷◌, ◌++◌, length, map, reverse}
use Rattle.std.specs.Prelude.{Option, Some, None, Result, Ok, Err}
use Rattle.pep508_marker.specs.declared.warnings.MarkerWarningKind.{MarkerWarningKind}
use Rattle.pep508_marker.specs.Warnings.{Warning}
use Rattle.pep508_marker.specs.Expression.{ExpressionRecord}
use Rattle.pep508_formula.specs.Building as building
use Rattle.pep508_error.specs.Cursors.{IsBehind, behind}
use Rattle.pep508_error.specs.declared.cursor.Cursor.{Cursor}
use Rattle.pep508_error.specs.declared.refusal.Refusal.{Refusal}
use Rattle.pep508_error.specs.Refusals.{IsOf}
use Rattle.pep508_error.specs.Steps.{◌>>=◌}
use Rattle.pep508_comparison_parser.specs.SideReading.{Reading}
use Rattle.pep508_comparison_parser.specs.Outcome.{Tells, IsWarned}
use Rattle.pep508_marker_parser.specs.declared.levels.Levels.{Levels}
use Rattle.pep508_marker_parser.specs.declared.chain.Step.{Step}
use Rattle.pep508_marker_parser.specs.declared.chain.Step.TheVariants as steps
use Rattle.pep508_marker_parser.specs.Formula.{Formula}
use Rattle.pep508_marker_parser.specs.MarkerReading.{Marker, Connective, And, Or, join_with, more_at, closed}
use Rattle.pep508_marker_parser.specs.TreeReading.{piece_at}

-- ---- formulas so far

-- a formula so far: its chains of `and` that have ended, and the pieces of the one that hasn't
pub record Begun : Type 0 where
  pub either : Option Marker
  pub both : Option Marker

-- the last of the formulas, how deep brackets may nest in it, and those that wait, the innermost first
pub record Standing : Type 0 where
  pub depth : ℕ
  pub begun : Begun
  pub waiting : List Begun

abbrev pub warned_in : Option Marker → List MarkerWarningKind
warned_in None = []
warned_in (Some marker) = marker.warned

abbrev pub begun_warned : Begun → List MarkerWarningKind
begun_warned begun = warned_in begun.either ++ warned_in begun.both

-- the warnings of the formulas that wait, in their order
abbrev pub waiting_warned : List Begun → List MarkerWarningKind
waiting_warned [] = []
waiting_warned (begun ∷ waiting) = waiting_warned waiting ++ begun_warned begun

-- ---- how reading continues

abbrev pub join_on : Connective → Option Marker → Marker → Marker
join_on word None next = next
join_on word (Some first) next = join_with word first next

-- all further pieces that the word joins
abbrev pub further_at : Connective → ℕ → Marker × List ℕ → Reading Marker
further_at word depth found = more_at word (piece_at word depth) (length found.1) found

-- the rest of a formula after a piece of a chain of `and`
abbrev pub formula_on : ℕ → Begun → Marker × List ℕ → Reading Marker
formula_on depth begun found =
    further_at And depth (join_on And begun.both found.0, found.1)
    >>= λ chain. further_at Or depth (join_on Or begun.either chain.0, chain.1)

-- after a formula: the bracket that closes it, and the rest of those around it
abbrev pub waiting_on : ℕ → List Begun → Marker × List ℕ → Reading Marker
waiting_on depth [] found = Ok found
waiting_on depth (begun ∷ waiting) found =
    closed found >>= λ piece. formula_on (suc depth) begun piece >>= waiting_on (suc depth) waiting

-- after a piece of the last formula
abbrev pub all_on : Standing → Marker × List ℕ → Reading Marker
all_on at found = formula_on at.depth at.begun found >>= waiting_on at.depth at.waiting

-- ---- what was built

abbrev pub formula_in : Option Marker → Option (Formula ExpressionRecord)
formula_in None = None
formula_in (Some marker) = Some marker.formula

abbrev pub begun_formulas : Begun → building.Begun
begun_formulas begun = record { either = formula_in begun.either; both = formula_in begun.both }

-- the open brackets are of this text, one for each formula that waits
abbrev pub AreOpen : List ℕ → List Begun → List Cursor → Type 0
AreOpen text [] [] = Unit {0}
AreOpen text [] (opening ∷ openings) = ⊥
AreOpen text (begun ∷ waiting) [] = ⊥
AreOpen text (begun ∷ waiting) (opening ∷ openings) =
    (opening.input.now ≡ text) × AreOpen text waiting openings

-- the levels have these formulas so far, and then a piece that is not yet joined with them, or none
pub record Stands (deepest : ℕ) (text : List ℕ) (levels : Levels) (piece : Option (Formula ExpressionRecord))
    (at : Standing) : Type 0 where
  pub deep : at.depth + length at.waiting ≡ deepest
  pub built : building.Stands levels.builder piece (begun_formulas at.begun) (map begun_formulas at.waiting)
  pub others : AreOpen text at.waiting (reverse levels.openings.items)

-- ---- steps

-- A reading from `start` on has come to a place, with these levels and these warnings.
module _ (deepest : ℕ) (start : Cursor) (reading : Reading Marker)
    (warned : List MarkerWarningKind) (levels : Levels) where
  -- a piece is at the place
  pub record IsAtPart (place : Cursor) : Type 0 where
    pub at : Standing
    pub stands : Stands deepest start.input.now levels None at
    pub warned_is : waiting_warned (at.begun ∷ at.waiting) ≡ warned
    pub stays : IsBehind start place
    pub goes_on : (piece_at And at.depth (behind place) >>= all_on at) ≡ reading

  -- a piece was read up to the place
  pub record IsBehindPart (place : Cursor) : Type 0 where
    pub at : Standing
    pub piece : Marker
    pub stands : Stands deepest start.input.now levels (Some piece.formula) at
    pub warned_is : waiting_warned (at.begun ∷ at.waiting) ++ piece.warned ≡ warned
    pub stays : IsBehind start place
    pub goes_on : all_on at (piece, behind place) ≡ reading

  -- the last formula was read up to the place
  pub record IsBehindFormula (place : Cursor) : Type 0 where
    pub depth : ℕ
    pub waiting : List Begun
    pub whole : Marker
    pub stands : Stands deepest start.input.now levels None
        (record { depth = depth; begun = record { either = Some whole; both = None }; waiting = waiting })
    pub warned_is : waiting_warned waiting ++ whole.warned ≡ warned
    pub stays : IsBehind start place
    pub goes_on : waiting_on depth waiting (whole, behind place) ≡ reading

  -- all is read up to the place
  pub record IsAtEnd (place : Cursor) : Type 0 where
    pub whole : Marker
    pub built : building.Stands levels.builder None (building.whole_of whole.formula) []
    pub warned_is : whole.warned ≡ warned
    pub stays : IsBehind start place
    pub is_read : reading ≡ Ok (whole, behind place)

  abbrev pub IsStep : Step → Type 0
  IsStep (steps.Part place) = IsAtPart place
  IsStep (steps.Read place) = IsBehindPart place
  IsStep (steps.End place) = IsAtEnd place

  -- the next step, or a refusal for the reading's reason
  abbrev pub StepsTo : Result Step Refusal → Type 0
  StepsTo (Ok step) = IsStep step
  StepsTo (Err refusal) = Tells refusal.kind reading × IsOf start refusal

-- the next step, or a refusal for the reading's reason, after more warnings were received
abbrev pub WarnsAndStepsTo : {R : Type 0} → (R → Warning → R → Type 0) → R → R → ℕ → Cursor
    → Reading Marker → List MarkerWarningKind → Levels → Result Step Refusal → Type 0
WarnsAndStepsTo takes old new deepest start reading warned levels (Ok step) =
    (more : List MarkerWarningKind) × IsWarned takes old new more
    × IsStep deepest start reading (warned ++ more) levels step
WarnsAndStepsTo takes old new deepest start reading warned levels (Err refusal) =
    Tells refusal.kind reading × IsOf start refusal

-- how much is left to read, and then whether a piece is to be read or was
abbrev pub left_at : Step → ℕ
left_at (steps.Part place) = 2 + 2 * length (behind place)
left_at (steps.Read place) = 1 + 2 * length (behind place)
left_at (steps.End place) = 2 * length (behind place)
