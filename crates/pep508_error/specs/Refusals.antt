-- Why a reader stops.
use Rattle.std.specs.Prelude.{◌≡◌, ℕ, List, Result, Ok, Err}
use Rattle.pep508_error.specs.declared.cursor.Cursor.{Cursor}
use Rattle.pep508_error.specs.declared.refusal.Refusal.{Refusal}
use Rattle.pep508_error.specs.declared.refusal.RefusalKind.{RefusalKind}
use Rattle.pep508_error.specs.declared.refusal.RefusalKind.TheVariants.{Memory}
use Rattle.pep508_error.specs.Cursors.{IsBehind}

-- the refusal is of this kind and of `len` bytes of a text, from a place on
pub record Refuses (refusal : Refusal) (kind : RefusalKind) (input : List ℕ) (start len : ℕ) : Type 0 where
  pub kind_is : refusal.kind ≡ kind
  pub input_is : refusal.input.now ≡ input
  pub start_is : refusal.start ≡ start
  pub len_is : refusal.len ≡ len

-- a refusal is of the text of the place, unless it is lack of memory
abbrev pub IsOf : Cursor → Refusal → Type 0
IsOf cursor refusal = (refusal.kind ≡ Memory → ⊥) → refusal.input.now ≡ cursor.input.now

-- the place where reading ends is after the given one in the same text, and a refusal shows a part of that
-- text
abbrev pub StaysIn : {X : Type 0} → Cursor → Result (X × Cursor) Refusal → Type 0
StaysIn cursor (Ok found) = IsBehind cursor found.1
StaysIn cursor (Err refusal) = IsOf cursor refusal
