-- The lines of a text.
use Rattle.std.specs.Prelude.{ℕ, ◌-◌, ◌==◌, not, if◌then◌else◌, List, [], length, take}
use Rattle.std.specs.List.{filter, slice_index, slice_split}

-- a text without the line feed at its end, if there is one
abbrev pub without_last_feed : List ℕ → List ℕ
without_last_feed text =
    if slice_index text (length text - 1) == 10 then take (length text - 1) text else text

-- the lines of a text, which end in line feeds; the last may be without one
unfoldable pub batch_lines : List ℕ → List (List ℕ)
batch_lines text = if length text == 0 then [] else slice_split (λ b. b == 10) (without_last_feed text)

-- the lines of a text that aren't empty
unfoldable pub filled_lines : List ℕ → List (List ℕ)
filled_lines text = filter (λ line. not (length line == 0)) (slice_split (λ b. b == 10) text)
