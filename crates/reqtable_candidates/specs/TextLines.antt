-- The lines of a list: where each ends, and which are skipped.
use Rattle.std.specs.Prelude.{ℕ, ◌==◌, ◌&&◌, Bool, true, not, List, [], ◌∷◌, map, take, if◌then◌else◌}
use Rattle.std.specs.Prelude.{Option, Some, None, Result, Ok, Err}
use Rattle.std.specs.Option.{option_map_or}
use Rattle.std.specs.List.{filter, slice_split, enumerate_from, list_all, position_or_len, zip}
use Rattle.std.specs.Char.{is_whitespace}
use Rattle.std.specs.Str.{chars, encode_utf8_all, is_utf8}
use Rattle.std.specs.Str.Lossy.{utf8_valid_len}
use Rattle.std.specs.Str.Lines.{strip_carriage_return}

-- each character with the one before it, none before the first
abbrev pub with_before : List ℕ → List (Option ℕ × ℕ)
with_before cs = zip (None ∷ map Some cs) cs

-- whether a comment begins at a character: a `#` that is first or after white space
abbrev pub begins_comment : Option ℕ × ℕ → Bool
begins_comment (before, c) = option_map_or is_whitespace before true && c == 35

-- a line without its comment: the characters before the first that begins one, or all
unfoldable pub without_comment : List ℕ → List ℕ
without_comment line =
    let cs = chars line in encode_utf8_all (take (position_or_len begins_comment (with_before cs)) cs)

-- only white space, or nothing
unfoldable pub is_blank : List ℕ → Bool
is_blank line = list_all is_whitespace (chars line)

-- the lines with their numbers from 1, each without its end (a line feed, with one carriage return before it)
-- and its comment; blank ones are counted and skipped
unfoldable pub text_lines : List ℕ → List (ℕ × List ℕ)
text_lines bytes =
    filter (λ l. not (is_blank l.1))
    (enumerate_from 1
    (map (λ l. without_comment (strip_carriage_return l)) (slice_split (λ b. b == 10) bytes)))

-- a first result before the others: all values, or the first fault
abbrev pub with_first : {A E : Type 0} → Result A E → Result (List A) E → Result (List A) E
with_first (Ok x) (Ok xs) = Ok (x ∷ xs)
with_first (Ok x) (Err fault) = Err fault
with_first (Err fault) others = Err fault

-- the values of all numbered lines, or the first fault
abbrev pub each_line : {A E : Type 0} → (ℕ → List ℕ → Result A E) → List (ℕ × List ℕ) → Result (List A) E
each_line read [] = Ok []
each_line read (line ∷ lines) = with_first (read line.0 line.1) (each_line read lines)

-- the values of all lines of a text, or the first fault, or the offset of the first byte that is not UTF-8
unfoldable pub lines_of_text : {A E : Type 0} →
    (ℕ → List ℕ → Result A E) → (ℕ → E) → List ℕ → Result (List A) E
lines_of_text read no_text bytes =
    if is_utf8 bytes then each_line read (text_lines bytes) else Err (no_text (utf8_valid_len bytes))
