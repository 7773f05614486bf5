-- How texts of inputs and of the command line are shown in messages: control characters by their numbers.
use Rattle.std.specs.Prelude.{◌≡◌, ◌&&◌, ◌++◌, ◌==◌, ℕ, Bool, List, [], ◌∷◌, length, take, drop, chars}
use Rattle.std.specs.Prelude.{encode_utf8_all, flat_map, if◌then◌else◌, nat_le, string_bytes, IfSome}
use Rattle.std.specs.Char.Escape.{escape_unicode}
use Rattle.std.specs.List.{list_any}
use Rattle.underline.specs.Underline.{columns, underlined}
use Rattle.pep508_url.specs.UrlFaults.{url_error_text}
use Rattle.pep508_url.specs.UrlTexts.{Verbatim}
use Rattle.pep508_url.specs.declared.url_error.VerbatimUrlError.{VerbatimUrlError}
use Rattle.pep508_error.specs.declared.error.Pep508Error.{Pep508Error}
use Rattle.pep508_error.specs.Errors.{source_text}
use Rattle.reqs_io_faults.specs.declared.fault.Input.{Input}
use Rattle.reqs_io_faults.specs.declared.fault.RunFault.{RunFault}
use Rattle.reqs_io_faults.specs.declared.fault.RunFault.TheVariants.{Requirement}
use Rattle.reqs_io_faults.specs.FaultText.{fault_text, requirement_front}

-- ---- texts

-- the control characters C0, DEL and C1 (Unicode, general category Cc), from the first to the last of a range
abbrev pub controls : List (ℕ × ℕ)
controls = (0x0, 0x1f) ∷ (0x7f, 0x9f) ∷ []

-- the characters that change the direction of a text: ALM, LRM and RLM, the embeddings and overrides, the
-- isolates (Unicode Standard Annex #9, "Directional Formatting Characters")
abbrev pub directions : List (ℕ × ℕ)
directions = (0x61c, 0x61c) ∷ (0x200e, 0x200f) ∷ (0x202a, 0x202e) ∷ (0x2066, 0x2069) ∷ []

abbrev pub is_in : ℕ → ℕ × ℕ → Bool
is_in c range = nat_le range.0 c && nat_le c range.1

-- a character is shown by its number
abbrev pub is_hidden : ℕ → Bool
is_hidden c = list_any (is_in c) (controls ++ directions)

-- the characters that show a character: `\u{..}` with its number in hexadecimal digits, or itself
abbrev pub shown_char : ℕ → List ℕ
shown_char c = if is_hidden c then escape_unicode c else c ∷ []

-- a text as it is shown
unfoldable pub shown_text : List ℕ → List ℕ
shown_text text = encode_utf8_all (flat_map shown_char (chars text))

-- the same in a text of several lines, whose line feeds stay
abbrev pub shown_in_lines : ℕ → List ℕ
shown_in_lines c = if c == 10 then c ∷ [] else shown_char c

unfoldable pub shown_lines : List ℕ → List ℕ
shown_lines text = encode_utf8_all (flat_map shown_in_lines (chars text))

-- ---- faults

-- the number of columns that a text has as it is shown
abbrev pub shown_columns : List ℕ → ℕ
shown_columns text = columns (shown_text text)

-- the number of marks under a part of a line: one under each column that is shown of it, and one after the
-- line's end
abbrev pub shown_marks : List ℕ → ℕ → ℕ → ℕ
shown_marks line start len =
    if start == length line then 1 else shown_columns (take len (drop start line))

-- a line as it is shown, with a part of it underlined
abbrev pub shown_picture : List ℕ → ℕ → ℕ → List ℕ
shown_picture line start len =
    underlined (shown_text line) (shown_columns (take start line)) (shown_marks line start len)

-- the text for an invalid line, whose error has this message
abbrev pub shown_requirement : List ℕ → ℕ → Pep508Error Verbatim VerbatimUrlError → List ℕ → List ℕ
shown_requirement path number error message =
    requirement_front (shown_text path) number error ++ shown_text message
    ++ (10 ∷ shown_picture (string_bytes error.excerpt.input) error.excerpt.start error.excerpt.len)

-- the text is that for an invalid line; nothing is claimed of the words of the crate `url` but that they are
-- shown too
abbrev pub IsShownRequirement : List ℕ → ℕ → Pep508Error Verbatim VerbatimUrlError → List ℕ → Type 0
IsShownRequirement path number error text =
    (message : List ℕ) × IfSome (source_text url_error_text error.message) (λ wanted. message ≡ wanted)
    × (text ≡ shown_requirement path number error message)

-- the text is the message for a fault as it is shown; only that for an invalid line has line ends of its own
abbrev pub IsShownFault : (Input → List ℕ) → RunFault → List ℕ → Type 0
IsShownFault said (Requirement input number error) text =
    IsShownRequirement (said input) number error text
IsShownFault said fault text = IfSome (fault_text said fault) (λ wanted. text ≡ shown_text wanted)
