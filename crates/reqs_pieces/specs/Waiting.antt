-- What is written of a text, and what is still in the buffer.
use Rattle.std.specs.Prelude.{◌≡◌, ℕ, List, [], ◌++◌, Option}
use Rattle.std.specs.Io.KnownBytes.{Appends}

-- what a writer wrote and then what is in the buffer are the text; if nothing was written no write was made
pub record IsWaiting {W : Type 0} (contents : W → Option (List ℕ)) (old now : W) (waiting text : List ℕ)
    : Type 0 where
  pub written : List ℕ
  pub is_text : written ++ waiting ≡ text
  pub held : Appends (contents old) (contents now) written
  pub untouched : text ≡ [] → now ≡ old
