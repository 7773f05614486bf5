-- The front that is read, for each reading of the text.
use Rattle.std.specs.Prelude.{◌≡◌, ℕ, List, Result, Ok, Err}
use Rattle.pep508_url.specs.Vars.{Variables}
use Rattle.pep440_specifier_list.specs.Lists.{IsInOrder}
use Rattle.pep508_error.specs.declared.cursor.Cursor.{Cursor}
use Rattle.pep508_error.specs.declared.refusal.Refusal.{Refusal}
use Rattle.pep508_requirement_text.specs.FrontReading as said
use Rattle.pep508_requirement_text.specs.FrontReading.{Reading, if_there}
use Rattle.pep508_error.specs.Steps.{◌>>=◌}
use Rattle.pep508_error.specs.Cuts.{cut_around}
use Rattle.pep508_requirement_text.specs.FrontReading.{enclosed}
use Rattle.pep508_requirement_text.specs.FrontReading.Source.{Any, Specifiers, Url}
use Rattle.pep508_requirement_text.specs.FrontOutcome.{Tells}
use Rattle.pep508_error.specs.Cursors.{behind}
use Rattle.pep508_requirement_text.specs.declared.specifiers_or_url.Source.{Source}
use Rattle.pep508_requirement_text.specs.declared.specifiers_or_url.Source.TheVariants as found
use Rattle.pep508_requirement_text.specs.declared.front.Front.{Front}

-- the source is that of the text: specifiers, sorted by version, or the text of a URL
abbrev pub IsSource : Source → said.Source → Type 0
IsSource found.Any Any = Unit {0}
IsSource (found.Specifiers list) (Specifiers given) = IsInOrder given list
IsSource (found.Url piece) (Url url) = piece.text.now ≡ url
IsSource found.Any (Specifiers given) = ⊥
IsSource found.Any (Url url) = ⊥
IsSource (found.Specifiers list) Any = ⊥
IsSource (found.Specifiers list) (Url url) = ⊥
IsSource (found.Url piece) Any = ⊥
IsSource (found.Url piece) (Specifiers given) = ⊥

-- this front was read
pub record IsFront (read : Front) (front : said.Front) : Type 0 where
  pub name : read.name ≡ front.name
  pub extras : read.extras.items ≡ front.extras
  pub source : IsSource read.source front.source

-- the result is the reading: its value, and the place after it, or a refusal for its reason
abbrev pub ReadsAs : {X Y : Type 0} → Variables → (X → Y → Type 0) → Result (X × Cursor) Refusal → Reading Y
    → Type 0
ReadsAs {X} {Y} vars IsSaid (Ok found) reading =
    (y : Y) × (reading ≡ Ok (y, behind found.1)) × IsSaid found.0 y
ReadsAs vars IsSaid (Err refusal) reading = Tells vars refusal.kind reading

abbrev pub ReadsFront : Variables → Result (Front × Cursor) Refusal → Reading said.Front → Type 0
ReadsFront vars result reading = ReadsAs vars IsFront result reading

-- a URL is in the text of the place
abbrev pub IsUrlIn : Cursor → Source → Type 0
IsUrlIn cursor found.Any = Unit {0}
IsUrlIn cursor (found.Specifiers list) = Unit {0}
IsUrlIn cursor (found.Url piece) = piece.start.input.now ≡ cursor.input.now

-- the list in brackets after the opening one
abbrev pub enclosed_at : List ℕ → Reading said.Source
enclosed_at cs = if_there (cut_around 41 cs) >>= enclosed
