-- The fronts of names as numbers, whose order is that of the names unless the fronts are equal.
use Rattle.std.specs.Prelude.{◌+◌, ◌*◌, ◌&&◌, ℕ, zero, suc, Bool, List, [], ◌∷◌, nat_lt}
use Rattle.std.specs.List.{list_all}

-- the first of some bytes, or 0, and the bytes after it
abbrev pub first_or_none : List ℕ → ℕ
first_or_none [] = 0
first_or_none (byte ∷ bytes) = byte

abbrev pub behind_first : List ℕ → List ℕ
behind_first [] = []
behind_first (byte ∷ bytes) = bytes

-- a number, with `count` bytes appended as its last digits of eight bits; missing bytes are 0
abbrev pub front_from : ℕ → ℕ → List ℕ → ℕ
front_from zero front bytes = front
front_from (suc count) front bytes = front_from count (front * 256 + first_or_none bytes) (behind_first bytes)

-- the number of the first eight bytes
unfoldable pub front_of : List ℕ → ℕ
front_of bytes = front_from 8 0 bytes

-- each is a byte, and none is 0
abbrev pub are_bytes : List ℕ → Bool
are_bytes bytes = list_all (λ byte. nat_lt 0 byte && nat_lt byte 256) bytes
