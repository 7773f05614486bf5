-- A text with a part of it underlined.
use Rattle.std.specs.Prelude.{ℕ, false, List, ◌∷◌, ◌++◌, sum_by, replicate, chars, unwrap_or}
use Rattle.unicode_width.specs.Width.{char_width}

-- the number of columns of a character; a control has none
abbrev pub char_columns : ℕ → ℕ
char_columns c = unwrap_or (char_width false c) 0

-- the number of columns of a text
unfoldable pub columns : List ℕ → ℕ
columns text = sum_by char_columns (chars text)

-- the text, and on the next line blanks and marks
abbrev pub underlined : List ℕ → ℕ → ℕ → List ℕ
underlined text blanks marks = text ++ (10 ∷ (replicate blanks 32 ++ replicate marks 94))
