-- The part of a text that an error shows.
use Rattle.std.specs.Prelude.{◌≡◌, ℕ, ◌+◌, ◌<◌, ◌≤◌, List, length}
use Rattle.std.specs.Str.{IsCharBoundary}

-- `len` bytes from a place on, both ends between characters; at the text's end at most the one place after
-- it
pub record IsSpan (input : List ℕ) (start len : ℕ) : Type 0 where
  pub starts : IsCharBoundary input start
  pub ends : start < length input → IsCharBoundary input (start + len)
  pub behind : start ≡ length input → len ≤ 1
