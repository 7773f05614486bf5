-- The results of the readers of a comparison, for each reading of its text.
use Rattle.std.specs.Prelude.{◌≡◌, ℕ, List, [], map, option_map, Option, Some, None, Result, Ok, Err}
use Rattle.std.specs.List.{FoldsTo}
use Rattle.pep508_marker.specs.declared.expression.MarkerExpression.{MarkerExpression}
use Rattle.pep508_marker.specs.declared.warnings.MarkerWarningKind.{MarkerWarningKind}
use Rattle.pep508_marker.specs.Warnings.{Warning}
use Rattle.pep508_marker.specs.declared.values.MarkerValueExtra.{MarkerValueExtra}
use Rattle.pep508_marker.specs.Expression.{expression_of}
use Rattle.pep508_marker.specs.Values as values
use Rattle.pep508_name.specs.Name.{name_of}
use Rattle.pep508_error.specs.declared.cursor.Cursor.{Cursor}
use Rattle.pep508_error.specs.declared.refusal.Refusal.{Refusal}
use Rattle.pep508_error.specs.declared.refusal.RefusalKind.{RefusalKind}
use Rattle.pep508_error.specs.declared.refusal.RefusalKind.TheVariants.{Memory, String}
use Rattle.pep508_error.specs.declared.refusal.RefusalKind.TheVariants.{UnsupportedRequirement, NumberAtEnd}
use Rattle.pep508_error.specs.declared.error.Pep508Error.{Pep508Error}
use Rattle.pep508_error.specs.declared.error.Pep508ErrorSource.{Pep508ErrorSource}
use Rattle.pep508_error.specs.declared.error.Pep508ErrorSource.TheVariants as sources
use Rattle.pep508_error.specs.Cursors.{behind}
use Rattle.pep508_error.specs.Errors.{Fault, told_error}
use Rattle.pep508_comparison_parser.specs.Compared.{Compared, extra_of, warned_of_name}
use Rattle.pep508_comparison_parser.specs.SideReading.{Refused, Malformed, AtEnd, TooDeep, Reading}

-- a refusal of this kind is one for that reason; lack of memory is one for any
abbrev pub Fits : RefusalKind → Refused → Type 0
Fits Memory refused = Unit {0}
Fits (String message) Malformed = Unit {0}
Fits (String message) AtEnd = ⊥
Fits (String message) TooDeep = Unit {0}
Fits (UnsupportedRequirement message) refused = ⊥
Fits NumberAtEnd Malformed = ⊥
Fits NumberAtEnd AtEnd = Unit {0}
Fits NumberAtEnd TooDeep = ⊥

-- the refusal is that of the reading, or lack of memory
abbrev pub Tells : {Y : Type 0} → RefusalKind → Result Y Refused → Type 0
Tells kind (Ok y) = kind ≡ Memory
Tells kind (Err refused) = Fits kind refused

-- the result is the reading: its value, seen by `view`, and the place after it; or a refusal for its reason
abbrev pub Reads : {X Y : Type 0} → (X → Y) → Result (X × Cursor) Refusal → Reading Y → Type 0
Reads view (Ok found) reading = reading ≡ Ok (view found.0, behind found.1)
Reads view (Err refusal) reading = Tells refusal.kind reading

-- a reporter has received warnings of just these kinds, in their order
pub record IsWarned {R : Type 0} (takes : R → Warning → R → Type 0) (old new : R)
    (kinds : List MarkerWarningKind) : Type 0 where
  pub warnings : List Warning
  pub are_kinds : map (λ warning. warning.kind) warnings ≡ kinds
  pub taken : FoldsTo takes old warnings new

-- the result is the comparison, and its warnings were received
pub record IsCompared {R : Type 0} (takes : R → Warning → R → Type 0) (old new : R)
    (said : Option MarkerExpression) (compared : Compared) : Type 0 where
  pub said_is : option_map expression_of said ≡ compared.said
  pub warned : IsWarned takes old new compared.warned

-- the value that `extra` is compared with is the name of the text, or with a warning the text that is not a
-- name
pub record IsNamed {R : Type 0} (takes : R → Warning → R → Type 0) (old new : R) (extra : MarkerValueExtra)
    (text : List ℕ) : Type 0 where
  pub extra_is : values.extra_of extra ≡ extra_of (name_of text) text
  pub warned :
      IsWarned takes old new (warned_of_name (name_of text) (record { said = None; warned = [] })).warned

-- the result is the reading of a comparison
abbrev pub ReadsComparison : {R : Type 0} → (R → Warning → R → Type 0) → R → R
    → Result (Option MarkerExpression × Cursor) Refusal → Reading Compared → Type 0
ReadsComparison takes old new (Ok found) reading =
    (compared : Compared) × (reading ≡ Ok (compared, behind found.1))
    × IsCompared takes old new found.0 compared
ReadsComparison takes old new (Err refusal) reading = Tells refusal.kind reading

-- the result is the reading of a comparison alone
abbrev pub ReadsWhole : {R : Type 0} → (R → Warning → R → Type 0) → R → R
    → Result (Option MarkerExpression) Refusal → Result Compared Refused → Type 0
ReadsWhole takes old new (Ok said) reading =
    (compared : Compared) × (reading ≡ Ok compared) × IsCompared takes old new said compared
ReadsWhole takes old new (Err refusal) reading = Tells refusal.kind reading

-- ---- errors

-- an error of this source reports that reason
abbrev pub FitsSource : {T E : Type 0} → Pep508ErrorSource T E → Refused → Type 0
FitsSource sources.Memory refused = Unit {0}
FitsSource (sources.String message) Malformed = Unit {0}
FitsSource (sources.String message) AtEnd = ⊥
FitsSource (sources.String message) TooDeep = Unit {0}
FitsSource (sources.UrlError error) refused = ⊥
FitsSource (sources.UnsupportedRequirement message) refused = ⊥
FitsSource sources.NumberAtEnd Malformed = ⊥
FitsSource sources.NumberAtEnd AtEnd = Unit {0}
FitsSource sources.NumberAtEnd TooDeep = ⊥

abbrev pub TellsSource : {T E Y : Type 0} → Pep508ErrorSource T E → Result Y Refused → Type 0
TellsSource source (Ok y) = ⊥
TellsSource source (Err refused) = FitsSource source refused

-- the fault that an error reports is that of the reading, and of this text; an error that reports none is
-- lack of memory
abbrev pub Shows : {T E Y : Type 0} → List ℕ → Option (Fault T E) → Result Y Refused → Type 0
Shows text None reading = Unit {0}
Shows text (Some fault) reading = TellsSource fault.source reading × (fault.input ≡ text)

-- the result is the comparison that a text is
abbrev pub ReadsExpression : {R T E : Type 0} → (R → Warning → R → Type 0) → R → R → List ℕ
    → Result (Option MarkerExpression) (Pep508Error T E) → Result Compared Refused → Type 0
ReadsExpression takes old new text (Ok said) reading =
    (compared : Compared) × (reading ≡ Ok compared) × IsCompared takes old new said compared
ReadsExpression takes old new text (Err error) reading = Shows text (told_error error) reading

-- the error or the comparison is that of the reading, without a reporter
abbrev pub SaysExpression : {T E : Type 0} → List ℕ → Result (Option MarkerExpression) (Pep508Error T E)
    → Result Compared Refused → Type 0
SaysExpression text (Ok said) reading =
    (compared : Compared) × (reading ≡ Ok compared) × (option_map expression_of said ≡ compared.said)
SaysExpression text (Err error) reading = Shows text (told_error error) reading
