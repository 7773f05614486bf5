-- Places in a text.
use Rattle.std.specs.Prelude.{◌≡◌, ℕ, ◌≤◌, List, ◌++◌, drop, chars}
use Rattle.std.specs.Char.{len_utf8}
use Rattle.std.specs.List.{slice_get}
use Rattle.std.specs.Option.{option_map_or}
use Rattle.std.specs.Str.{IsUtf8}
use Rattle.pep508_error.specs.declared.cursor.Cursor.{Cursor}

-- what follows the place
abbrev pub rest_of : Cursor → List ℕ
rest_of cursor = drop cursor.position cursor.input.now

-- the characters after a place
abbrev pub behind : Cursor → List ℕ
behind cursor = chars (rest_of cursor)

-- how many bytes the first character of a text has; 1 for the place at its end
abbrev pub first_len : List ℕ → ℕ
first_len text = option_map_or len_utf8 (slice_get (chars text) 0) 1

-- the place is in the same text, at the other or after it
pub record IsBehind (earlier later : Cursor) : Type 0 where
  pub input : later.input.now ≡ earlier.input.now
  pub ordered : earlier.position ≤ later.position

-- this text is at the place
pub record IsAt (cursor : Cursor) (text : List ℕ) : Type 0 where
  pub rest : List ℕ
  pub whole : rest_of cursor ≡ text ++ rest
  pub rest_utf8 : IsUtf8 rest
