-- The reading of the front of a requirement's text, before its marker: a name, extras, and specifiers or
-- the text of a URL (PEP 508, "Grammar"); or why there is none.
use Rattle.std.specs.Prelude.{ℕ, ◌==◌, ◌||◌, not, Bool, false, if◌then◌else◌, List, [], ◌∷◌, length}
use Rattle.std.specs.Prelude.{Option, Some, None, Result, Ok, Err, encode_utf8_all}
use Rattle.std.specs.Char.{is_whitespace}
use Rattle.std.specs.List.{slice_split}
use Rattle.std.specs.Option.{option_map}
use Rattle.std.specs.Str.{chars, skip_leading_whitespace, trim, trim_start}
use Rattle.pep508_name.specs.Name.{is_name, is_name_byte, is_alphanumeric_at, name_of, normal_name}
use Rattle.pep440_specifier.specs.Matching.{SpecifierRecord}
use Rattle.pep440_specifier_list.specs.ListReading.{ListReading, list_reading}
use Rattle.pep508_error.specs.Cuts.{encoded_cut, cut_around}
use Rattle.pep508_error.specs.Steps.{◌>>=◌}
use Rattle.pep508_requirement_text.specs.Archives.{is_archive}
use Rattle.pep508_requirement_text.specs.UrlEnds.{url_split}

-- what follows a name and its extras: neither specifiers nor a URL, specifiers in the order given, or the
-- text of a URL
pub data Source : Type 0 where
  Any : Source
  Specifiers : List SpecifierRecord → Source
  Url : List ℕ → Source

-- a requirement but for its marker; its names are normal
pub record Front : Type 0 where
  pub name : List ℕ
  pub extras : List (List ℕ)
  pub source : Source

-- Why a text is not a requirement: by the grammar; since this run of characters is in the place of a name,
-- or of what may follow one; or since the name alone is that of an archive.
pub data Refused : Type 0 where
  Malformed : Refused
  Nameless : List ℕ → Refused
  Archive : Refused

-- what is read at the front of some characters, and the characters that follow it
abbrev pub Reading : Type 0 → Type 0
Reading A = Result (A × List ℕ) Refused

-- ---- pieces

-- the run of characters that are no white space
abbrev pub run_of : List ℕ → List ℕ
run_of cs = (encoded_cut is_whitespace cs).0

-- ---- names and extras

-- a text that may be the name, and what follows it
abbrev pub if_name : List ℕ → List ℕ × List ℕ → Reading (List ℕ)
if_name cs parts =
    if is_name parts.0 then Ok parts
    else Err (if is_alphanumeric_at parts.0 0 then Malformed else Nameless (run_of cs))

-- the name as it is written: the characters of names at the front
unfoldable pub name_at : List ℕ → Reading (List ℕ)
name_at cs = if_name cs (encoded_cut (λ c. not (is_name_byte c)) cs)

abbrev pub with_name : Option (List ℕ) → Option (List (List ℕ)) → Option (List (List ℕ))
with_name None names = None
with_name (Some name) names = option_map (λ others. name ∷ others) names

-- the normal names that the pieces are, white space around each left out
abbrev pub names_of : List (List ℕ) → Option (List (List ℕ))
names_of [] = Some []
names_of (piece ∷ pieces) = with_name (name_of (trim piece)) (names_of pieces)

-- the names between brackets, a comma between each two; no names for white space alone
unfoldable pub extras_of : List ℕ → Option (List (List ℕ))
extras_of inside =
    if length (trim inside) == 0 then Some [] else names_of (slice_split (λ b. b == 44) inside)

abbrev pub if_there : {A : Type 0} → Option A → Result A Refused
if_there None = Err Malformed
if_there (Some x) = Ok x

abbrev pub bracketed : List ℕ × List ℕ → Reading (List (List ℕ))
bracketed parts = if_there (option_map (λ names. (names, parts.1)) (extras_of parts.0))

-- the extras at the front: those in brackets, or none
abbrev pub extras_at : List ℕ → Reading (List (List ℕ))
extras_at [] = Ok ([], [])
extras_at (c ∷ cs) = if c == 91 then if_there (cut_around 93 cs) >>= bracketed else Ok ([], c ∷ cs)

-- ---- specifiers and URLs

abbrev pub if_list : ListReading → Result (List SpecifierRecord) Refused
if_list (Ok given) = Ok given
if_list (Err fault) = Err Malformed

-- one or more specifiers with commas between them, in the order given
unfoldable pub specifiers_of_text : List ℕ → Result (List SpecifierRecord) Refused
specifiers_of_text text = if length text == 0 then Err Malformed else if_list (list_reading text)

-- a list's text, and the characters that follow it
abbrev pub listed : List ℕ × List ℕ → Reading Source
listed parts = specifiers_of_text parts.0 >>= λ given. Ok (Specifiers given, parts.1)

-- the list in brackets of which this is the inside
abbrev pub enclosed : List ℕ × List ℕ → Reading Source
enclosed parts = listed (trim_start parts.0, parts.1)

-- a URL's characters, and those that follow it
abbrev pub if_url : List ℕ × List ℕ → Reading Source
if_url parts = if length parts.0 == 0 then Err Malformed else Ok (Url (encode_utf8_all parts.0), parts.1)

-- a character with which an operator begins
abbrev pub begins_operator : ℕ → Bool
begins_operator c = c == 60 || c == 61 || c == 62 || c == 126 || c == 33

-- a name without specifiers or a URL
abbrev pub alone : List ℕ → List ℕ → Reading Source
alone name cs = if is_archive name then Err Archive else Ok (Any, cs)

-- what follows the name and its extras in the text of these characters: `@` and a URL, a list in brackets, a
-- list up to a `;`, or nothing up to a `;`
abbrev pub source_at : List ℕ → List ℕ → List ℕ → Reading Source
source_at whole name [] = alone name []
source_at whole name (c ∷ cs) =
    if c == 64 then if_url (url_split false 0 (skip_leading_whitespace cs))
    else (if c == 40 then if_there (cut_around 41 cs) >>= enclosed
    else (if begins_operator c then listed (encoded_cut (λ d. d == 59) (c ∷ cs))
    else (if c == 59 then alone name (c ∷ cs) else Err (Nameless (run_of whole)))))

-- ---- the front

abbrev pub with_source : List ℕ → List (List ℕ) → Source × List ℕ → Reading Front
with_source name extras found =
    Ok (record { name = normal_name name; extras = extras; source = found.0 }, found.1)

abbrev pub behind_extras : List ℕ → List ℕ → List (List ℕ) × List ℕ → Reading Front
behind_extras whole name found =
    source_at whole name (skip_leading_whitespace found.1) >>= with_source name found.0

abbrev pub behind_name : List ℕ → List ℕ × List ℕ → Reading Front
behind_name whole found = extras_at (skip_leading_whitespace found.1) >>= behind_extras whole found.0

-- the front of a requirement, and the characters that follow it
unfoldable pub front_reading : List ℕ → Reading Front
front_reading text = name_at (skip_leading_whitespace (chars text)) >>= behind_name (chars text)
