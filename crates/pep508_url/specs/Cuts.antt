-- Cuts of a text, and where a path begins.
use Rattle.std.specs.Prelude.{ℕ, ◌==◌, nat_lt, eqb, Bool, if◌then◌else◌, List, length, slice_index, drop}
use Rattle.std.specs.Prelude.{Option, Some, None}
use Rattle.std.specs.List.{starts_with, position_or_len, before_first, after_first}

-- the text after a word, where it is at the front
unfoldable pub behind : List ℕ → List ℕ → Option (List ℕ)
behind word text = if starts_with eqb text word then Some (drop (length word) text) else None

-- the bytes before the first such byte and those after it, where there is one
unfoldable pub cut : ℕ → List ℕ → Option (List ℕ × List ℕ)
cut byte text =
    if nat_lt (position_or_len (λ b. b == byte) text) (length text)
    then Some (before_first (λ b. b == byte) text, after_first (λ b. b == byte) text)
    else None

-- the path begins at the root: its first byte is `/`
abbrev pub is_absolute : List ℕ → Bool
is_absolute path = slice_index path 0 == 47
