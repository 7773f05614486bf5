-- The place of a piece in a text.
use Rattle.std.specs.Prelude.{ℕ, ◌≤◌, List}
use Rattle.std.specs.Str.{IsCharBoundary}

-- from one place to another, in bytes, and both between characters or at an end of the text
pub record IsPlaced (line : List ℕ) (start end : ℕ) : Type 0 where
  pub ordered : start ≤ end
  pub starts : IsCharBoundary line start
  pub ends : IsCharBoundary line end
