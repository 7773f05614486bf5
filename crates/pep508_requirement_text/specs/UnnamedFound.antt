-- The results of the reader of the front of a requirement without a name, for each reading of its text.
use Rattle.std.specs.Prelude.{◌≡◌, ◌⊎◌, ℕ, List, Result, Ok, Err}
use Rattle.pep508_error.specs.declared.cursor.Cursor.{Cursor}
use Rattle.pep508_error.specs.declared.refusal.Refusal.{Refusal}
use Rattle.pep508_error.specs.declared.refusal.RefusalKind.TheVariants.{Memory}
use Rattle.pep508_requirement_text.specs.FrontReading.Refused.{Malformed}
use Rattle.pep508_requirement_text.specs.FrontOutcome.{IsPlain}
use Rattle.pep508_error.specs.Cursors.{behind}
use Rattle.pep508_requirement_text.specs.UnnamedReading.{UnnamedFront, IsUnnamedReading}
use Rattle.pep508_requirement_text.specs.declared.unnamed_front.Unnamed.{Unnamed}

-- a front as contracts see it
abbrev pub seen : Unnamed → UnnamedFront
seen found = record { url = found.url.text.now; extras = found.extras.items }

-- the result is the reading, or lack of memory
abbrev pub ReadsUnnamed : Result (Unnamed × Cursor) Refusal → List ℕ → Type 0
ReadsUnnamed (Ok found) text = IsUnnamedReading text (Ok (seen found.0, behind found.1))
ReadsUnnamed (Err refusal) text =
    IsPlain refusal.kind × ((refusal.kind ≡ Memory) ⊎ IsUnnamedReading text (Err Malformed))
