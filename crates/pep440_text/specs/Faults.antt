-- The faults of a text that readers report.
use Rattle.std.specs.Prelude.{◌≢◌, ℕ, ◌≤◌, ◌-◌, List, length, Option, Some, None, Result, Err}
use Rattle.std.specs.Str.{IsCharBoundary}
use Rattle.pep440_text.specs.declared.FaultKind.TheVariants.{NoLeadingNumber}
use Rattle.pep440_text.specs.declared.TextFault.{TextFault}
use Rattle.pep440_text.specs.declared.ReadError.{ReadError}
use Rattle.pep440_text.specs.declared.ReadError.TheVariants.{Memory, Fault}

-- the fault that a reader's error reports; none for lack of memory
abbrev pub told_read : ReadError → Option TextFault
told_read Memory = None
told_read (Fault fault) = Some fault

-- a reading that doesn't fail because no number begins the release
abbrev pub HasNumber : {A : Type 0} → Result A TextFault → Type 0
HasNumber reading = (left : ℕ) → reading ≢ Err (record { kind = NoLeadingNumber; left = left })

-- a fault lies between two characters of a text, or at its end
abbrev pub StandsIn : List ℕ → TextFault → Type 0
StandsIn text fault = (fault.left ≤ length text) × IsCharBoundary text (length text - fault.left)
