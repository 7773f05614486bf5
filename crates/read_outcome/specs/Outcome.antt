-- The result of a call that reads, for the reading of its input. A reading is the value, or the fault of
-- the input.
use Rattle.std.specs.Prelude.{◌≡◌, ℕ, List, codes, Option, Some, None, Result, Ok, Err}
use Rattle.read_outcome.specs.declared.FromValueError.{FromValueError}
use Rattle.read_outcome.specs.declared.FromValueError.TheVariants.{Shape, Text}

-- the fault that an error reports is that of the reading; an error that reports none is lack of memory,
-- which leaves the reading open
abbrev pub Tells : {Y F : Type 0} → Option F → Result Y F → Type 0
Tells None reading = Unit {0}
Tells (Some fault) reading = reading ≡ Err fault

-- The result is the reading: its value, seen by `view`, or its fault, which `told` finds in the error.
abbrev pub Answers : {X Y E F : Type 0} → (X → Y) → (E → Option F) → Result X E → Result Y F → Type 0
Answers view told (Ok x) reading = reading ≡ Ok (view x)
Answers view told (Err error) reading = Tells (told error) reading

-- a value that is not a text is refused for that, and the text of another is read with this outcome
abbrev pub ReadsText : {A E : Type 0} → (List ℕ → Result A E → Type 0) → Option (List ℕ)
    → Result A (FromValueError E) → Type 0
ReadsText Outcome None (Ok x) = ⊥
ReadsText Outcome None (Err Shape) = Unit {0}
ReadsText Outcome None (Err (Text error)) = ⊥
ReadsText Outcome (Some text) (Ok x) = Outcome text (Ok x)
ReadsText Outcome (Some text) (Err Shape) = ⊥
ReadsText Outcome (Some text) (Err (Text error)) = Outcome text (Err error)

-- the print of why a JSON value could not be read; the print of its text's fault is given
abbrev pub value_error_text : {E : Type 0} → (E → Option (List ℕ)) → FromValueError E → Option (List ℕ)
value_error_text text Shape = Some (codes "expected a text")
value_error_text text (Text error) = text error
