-- One reading after another.
use Rattle.std.specs.Prelude.{Result, Ok, Err}

-- the next reading, unless the first is refused
infixl 10 ◌>>=◌
abbrev pub ◌>>=◌ : {A B F : Type 0} → Result A F → (A → Result B F) → Result B F
(Ok x) >>= next = next x
(Err refused) >>= next = Err refused
