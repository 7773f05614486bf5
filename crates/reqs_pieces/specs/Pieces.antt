-- Texts made of pieces.
use Rattle.std.specs.Prelude.{ℕ, List, [], get_or}
use Rattle.std.specs.List.{flat_map}

-- the pieces, and the text
pub record PiecesRecord : Type 0 where
  pub texts : List (List ℕ)
  pub whole : List ℕ

-- the pieces with these numbers one after another
abbrev pub text_of : List (List ℕ) → List ℕ → List ℕ
text_of texts order = flat_map (λ piece. get_or texts piece []) order
