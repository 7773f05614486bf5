-- Lines of a package by their numbers, and what they require.
use Rattle.std.specs.Prelude.{◌==◌, ℕ, List, map, filter, flat_map}
use Rattle.pep508_requirement_text.specs.FrontReading.{Front}
use Rattle.reqtable_table.specs.Kept.{KeptLine, kept_front}

-- the lines with some numbers, in the order of these
abbrev pub lines_at : List ℕ → List KeptLine → List KeptLine
lines_at numbers lines = flat_map (λ n. filter (λ line. line.number == n) lines) numbers

-- what the lines with some numbers require
abbrev pub asks_at : List ℕ → List KeptLine → List Front
asks_at numbers lines = map kept_front (lines_at numbers lines)
