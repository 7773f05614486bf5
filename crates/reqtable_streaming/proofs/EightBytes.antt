-- The front of eight bytes or more, by the bytes.
use Rattle.std.proofs.Common.{◌≡◌, ℕ, ◌+◌, ◌*◌, ◌≤◌, List, [], ◌∷◌, length, get_or, arith}
use Rattle.reqtable_candidates.specs.Fronts.{front_of}

-- two bytes as one number
abbrev pub pair : List ℕ → ℕ → ℕ
pair bytes at = get_or bytes at 0 * 256 + get_or bytes (at + 1) 0

pub by_pairs : (bytes : List ℕ) → 8 ≤ length bytes
    → ((pair bytes 0 * 65536 + pair bytes 2) * 65536 + pair bytes 4) * 65536 + pair bytes 6 ≡ front_of bytes
unfolding front_of
by_pairs [] h = absurd (omega (arith, h))
by_pairs (a ∷ []) h = absurd (omega (arith, h))
by_pairs (a ∷ b ∷ []) h = absurd (omega (arith, h))
by_pairs (a ∷ b ∷ c ∷ []) h = absurd (omega (arith, h))
by_pairs (a ∷ b ∷ c ∷ d ∷ []) h = absurd (omega (arith, h))
by_pairs (a ∷ b ∷ c ∷ d ∷ e ∷ []) h = absurd (omega (arith, h))
by_pairs (a ∷ b ∷ c ∷ d ∷ e ∷ f ∷ []) h = absurd (omega (arith, h))
by_pairs (a ∷ b ∷ c ∷ d ∷ e ∷ f ∷ g ∷ []) h = absurd (omega (arith, h))
by_pairs (a ∷ b ∷ c ∷ d ∷ e ∷ f ∷ g ∷ x ∷ bytes) h = omega arith
