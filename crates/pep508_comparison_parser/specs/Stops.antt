-- The characters that end the pieces of a comparison.
use Rattle.std.specs.Prelude.{ℕ, Bool}
use Rattle.pep508_comparison_parser.specs.SideReading.{ends_key, ends_word, ends_signs}
use Rattle.pep508_comparison_parser.specs.declared.comparison_stops.PieceEnd.{PieceEnd}
use Rattle.pep508_comparison_parser.specs.declared.comparison_stops.PieceEnd.TheVariants.{Key, Word, Signs}

-- whether a character ends a piece of this kind
abbrev pub stops_at : PieceEnd → ℕ → Bool
stops_at Key = ends_key
stops_at Word = ends_word
stops_at Signs = ends_signs
