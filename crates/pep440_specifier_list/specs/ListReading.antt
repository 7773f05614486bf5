-- The reading of the text of a list: the pieces between commas, each a specifier; or the first piece that
-- is not one, with its place in the text.
use Rattle.std.specs.Prelude.{◌≡◌, ℕ, ◌+◌, ◌==◌, List, [], ◌∷◌, length, Option, Some, None, Result, Ok, Err}
use Rattle.std.specs.List.{slice_split}
use Rattle.std.specs.Option.{option_map}
use Rattle.std.specs.Result.{result_ok}
use Rattle.std.specs.String.{string_bytes}
use Rattle.read_outcome.specs.Outcome.{Tells}
use Rattle.pep440_specifier.specs.Matching.{SpecifierRecord}
use Rattle.pep440_specifier.specs.SpecifierReading.{SpecifierFault, specifier_reading, specifier_of}
use Rattle.pep440_specifier.specs.SpecifierReading.{told_specifier}
use Rattle.pep440_specifier_list.specs.declared.error.VersionSpecifiersParseError.{
  VersionSpecifiersParseError,
}
use Rattle.pep440_specifier_list.specs.declared.error.VersionSpecifiersParseError.TheVariants as errors
use Rattle.pep440_specifier_list.specs.Lists.{IsInOrder}

-- ---- reading

-- why a text is not a list: the text, where its first piece that is not a specifier begins and ends in it,
-- in bytes, and that piece's fault
pub record ListFault : Type 0 where
  pub line : List ℕ
  pub start : ℕ
  pub end : ℕ
  pub fault : SpecifierFault

-- the fault of the piece at a place of a line
abbrev pub fault_at : List ℕ → ℕ → ℕ → SpecifierFault → ListFault
fault_at line start end fault = record { line = line; start = start; end = end; fault = fault }

-- the reading of that piece
abbrev pub placed_reading : List ℕ → ℕ → ℕ → Result SpecifierRecord SpecifierFault
    → Result SpecifierRecord ListFault
placed_reading line start end (Ok member) = Ok member
placed_reading line start end (Err fault) = Err (fault_at line start end fault)

-- the members of a text in the order given, or its fault
abbrev pub ListReading : Type 0
ListReading = Result (List SpecifierRecord) ListFault

-- a first member and others; the first fault is that of the whole
abbrev pub with_first : Result SpecifierRecord ListFault → ListReading → ListReading
with_first (Err fault) others = Err fault
with_first (Ok first) (Err fault) = Err fault
with_first (Ok first) (Ok others) = Ok (first ∷ others)

-- the pieces of a line from a place on, a comma after each but the last
abbrev pub pieces_reading : List ℕ → ℕ → List (List ℕ) → ListReading
pieces_reading line start [] = Ok []
pieces_reading line start (piece ∷ pieces) =
    with_first (placed_reading line start (start + length piece) (specifier_reading piece))
    (pieces_reading line (start + length piece + 1) pieces)

-- the pieces between the commas
abbrev pub pieces_of : List ℕ → List (List ℕ)
pieces_of text = slice_split (λ b. b == 44) text

-- the empty text has no members
abbrev pub line_reading : List ℕ → ListReading
line_reading [] = Ok []
line_reading (byte ∷ bytes) = pieces_reading (byte ∷ bytes) 0 (pieces_of (byte ∷ bytes))

-- the members of a text in the order given, or the first piece that is not a specifier
unfoldable pub list_reading : List ℕ → ListReading
list_reading text = line_reading text

-- the members of a text in the order given, if it is that of a list
unfoldable pub specifiers_of : List ℕ → Option (List SpecifierRecord)
specifiers_of text = result_ok (list_reading text)

-- a specifier as which some text is read
abbrev pub IsReadFromText : SpecifierRecord → Type 0
IsReadFromText specifier = (text : List ℕ) × (specifier_of text ≡ Some specifier)

-- ---- results

-- the fault that an error reports; none for lack of memory
abbrev pub told_list : VersionSpecifiersParseError → Option ListFault
told_list errors.Memory = None
told_list (errors.Specifier piece) =
    option_map (fault_at (string_bytes piece.line) piece.start piece.end) (told_specifier piece.error)

-- an error that reports no fault is lack of memory itself, which is never inside another error
abbrev pub TellsOrMemory : VersionSpecifiersParseError → Type 0
TellsOrMemory error = told_list error ≡ None → error ≡ errors.Memory

-- the result is the reading of the text, its members sorted by version
abbrev pub ReadsList : Result (List SpecifierRecord) VersionSpecifiersParseError → List ℕ → Type 0
ReadsList (Ok list) text =
    (given : List SpecifierRecord) × (list_reading text ≡ Ok given) × IsInOrder given list
ReadsList (Err error) text = Tells (told_list error) (list_reading text)
