-- Which part of a text the refusal of a requirement's front shows: a number of bytes from a place on.
use Rattle.std.specs.Prelude.{◌≡◌, ℕ, ◌+◌, ◌-◌, ◌==◌, List, [], ◌∷◌, ◌++◌, length, IsTrue, is_some, flat_map}
use Rattle.std.specs.Prelude.{Some, None, Ok}
use Rattle.std.specs.List.{AllByRecursion}
use Rattle.std.specs.Str.{chars, skip_leading_whitespace, trim_start}
use Rattle.pep440_specifier.specs.SpecifierReading.{specifier_of}
use Rattle.pep440_specifier_list.specs.ListReading.{pieces_of}
use Rattle.pep508_error.specs.declared.cursor.Cursor.{Cursor}
use Rattle.pep508_error.specs.declared.refusal.Refusal.{Refusal}
use Rattle.pep508_error.specs.declared.refusal.RefusalKind.TheVariants.{Memory}
use Rattle.pep508_error.specs.Cursors.{rest_of, behind, first_len, IsBehind}
use Rattle.pep508_error.specs.Cuts.{begins_by, cut_around, encoded_cut}
use Rattle.pep508_error.specs.Refusals.{Refuses}
use Rattle.pep508_requirement_text.specs.FrontReading.{name_at, extras_at, begins_operator}
use Rattle.pep508_requirement_text.specs.FrontText.{IsBeforeMarker}

-- this refusal shows `len` bytes of this text, from a place on
abbrev pub Shows : List ℕ → ℕ → ℕ → Refusal → Type 0
Shows input start len refusal = Refuses refusal refusal.kind input start len

-- this is so of the refusal, unless it is lack of memory
abbrev pub IfTold : (Refusal → Type 0) → Refusal → Type 0
IfTold P refusal = (refusal.kind ≡ Memory → ⊥) → P refusal

-- ---- no name

-- an empty field: the first character of the whole text, or the place at its end where it has none
abbrev pub ShowsEmptyField : List ℕ → Refusal → Type 0
ShowsEmptyField input = Shows input 0 (first_len input)

-- ---- specifiers

abbrev pub IsSpecifier : List ℕ → Type 0
IsSpecifier piece = IsTrue (is_some (specifier_of piece))

abbrev pub with_comma : List ℕ → List ℕ
with_comma piece = piece ++ 44 ∷ []

-- the first piece between a list's commas that is not a specifier, and the text before it (PEP 508,
-- "Grammar": `version_many`); an empty list is one empty piece
pub record IsFirstWrong (list before piece : List ℕ) : Type 0 where
  pub earlier : List (List ℕ)
  pub later : List (List ℕ)
  pub pieces : pieces_of list ≡ earlier ++ piece ∷ later
  pub specifiers : AllByRecursion IsSpecifier earlier
  pub wrong : specifier_of piece ≡ None
  pub stands : before ≡ flat_map with_comma earlier

-- that piece of the list at a place
pub record ShowsPiece (input : List ℕ) (place : ℕ) (list : List ℕ) (refusal : Refusal) : Type 0 where
  pub before : List ℕ
  pub piece : List ℕ
  pub first : IsFirstWrong list before piece
  pub shown : Shows input (place + length before) (length piece) refusal

-- the first wrong piece of the list after the white space at the front of a text
abbrev pub ShowsTrimmed : List ℕ → ℕ → List ℕ → Refusal → Type 0
ShowsTrimmed input place text =
    ShowsPiece input (place + (length text - length (trim_start text))) (trim_start text)

-- ---- the front

-- this is so of the later place in the same text at which these characters are
abbrev pub IsSoWhere : Cursor → List ℕ → (Cursor → Type 0) → Type 0
IsSoWhere earlier cs P = (place : Cursor) × IsBehind earlier place × (behind place ≡ cs) × P place

-- what is shown where the text after a name and its extras is invalid: for an archive's name alone, no byte
-- where reading begins; for a list up to a `;` or the end, and for one in brackets, its wrong piece
pub record ShowsSource (whole place : Cursor) (refusal : Refusal) : Type 0 where
  pub alone : IsBeforeMarker (behind place) → Shows whole.input.now whole.position 0 refusal
  pub bare : IsTrue (begins_by begins_operator (behind place))
      → ShowsPiece place.input.now place.position (encoded_cut (λ c. c == 59) (behind place)).0 refusal
  pub enclosed : (cs inside later : List ℕ) → behind place ≡ 40 ∷ cs → cut_around 41 cs ≡ Some (inside, later)
      → IsSoWhere place cs (λ inner. ShowsTrimmed inner.input.now inner.position inside refusal)

-- these characters follow a text's name and extras, and white space after each
pub record IsAsked (text cs : List ℕ) : Type 0 where
  pub name : List ℕ
  pub behind_name : List ℕ
  pub extras : List (List ℕ)
  pub behind_extras : List ℕ
  pub is_name : name_at (skip_leading_whitespace (chars text)) ≡ Ok (name, behind_name)
  pub are_extras : extras_at (skip_leading_whitespace behind_name) ≡ Ok (extras, behind_extras)
  pub asked : skip_leading_whitespace behind_extras ≡ cs

-- what is shown of a text that is refused as the front of a requirement: of white space alone an empty
-- field, and after a name and extras what `ShowsSource` says
pub record ShowsFront (whole : Cursor) (refusal : Refusal) : Type 0 where
  pub empty : skip_leading_whitespace (behind whole) ≡ [] → ShowsEmptyField whole.input.now refusal
  pub asked : (cs : List ℕ) → IsAsked (rest_of whole) cs
      → IsSoWhere whole cs (λ place. ShowsSource whole place refusal)
