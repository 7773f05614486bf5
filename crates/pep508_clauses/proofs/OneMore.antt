-- Bits among others and one more have at most one bit beyond the others.
use Rattle.std.proofs.Common.{◌≡◌, ℕ, zero, suc, ◌+◌, ◌*◌, ◌^◌, ◌<◌, ◌≤◌, true, ⊎_elim, le-leb, refl, sym, ap}
use Rattle.std.proofs.Common.{◌∙◌, arith}
use Rattle.std.specs.Prelude.{bit_or, bit_xor, count_ones}
use Rattle.std.specs.Int.{bit_at}
use Rattle.std.proofs.lemmas.Nat.{ones_le_self, ones_cat, pow_pos}
use Rattle.std.proofs.lemmas.Nat.Bits.{bit_at_or, bit_at_xor, bit_at-zero, bit_at-pow_same, bit_at-pow_other}
use Rattle.std.proofs.lemmas.Nat.Bits.{bit_at-lt, same_from_bits}
use Rattle.std.proofs.lemmas.Bool.{cases_eq}
use Rattle.pep508_clauses.proofs.Joined.{Within}
use Rattle.pep508_clauses.specs.Near.{is_within_but_one}

module _ (own other n : ℕ) (w : Within (bit_or own (2 ^ n)) other) where
  abbrev more : ℕ
  more = bit_xor (bit_or other own) own

  no_other_bit : (i : ℕ) → (i ≡ n → ⊥) → bit_at more i ≡ 0
  no_other_bit i apart =
      omega (
        arith,
        bit_at_xor (bit_or other own) own i,
        bit_at_or other own i,
        bit_at_or other (bit_or own (2 ^ n)) i,
        bit_at_or own (2 ^ n) i,
        bit_at-pow_other n i apart,
        ap (λ all. bit_at all i) w,
        bit_at-lt other i,
        bit_at-lt own i,
      )

  more_is : (b : ℕ) → ((i : ℕ) → (i ≡ n → ⊥) → bit_at b i ≡ 0) → bit_at more n ≡ bit_at b n → more ≡ b
  more_is b alone e =
      same_from_bits more b (λ i. ⊎_elim
      (λ at. ap (bit_at more) at ∙ e ∙ ap (bit_at b) (sym at))
      (λ apart. no_other_bit i apart ∙ sym (alone i apart)) (cases_eq i n))

  ones_of_more : (b : ℕ) → bit_at more n ≡ b → b < 2 → count_ones more ≤ 1
  ones_of_more zero e h =
      omega (
        arith,
        ap count_ones (more_is 0 (λ i apart. bit_at-zero i) (e ∙ sym (bit_at-zero n))),
        ones_le_self 0,
      )
  ones_of_more (suc zero) e h =
      let place : 2 ^ n ≡ 1 * 2 ^ n + 0 = omega arith in
      omega (
        arith,
        ap count_ones (more_is (2 ^ n) (bit_at-pow_other n) (e ∙ sym (bit_at-pow_same n)) ∙ place),
        ones_cat n 1 0 (pow_pos n),
        ones_le_self 1,
        ones_le_self 0,
      )
  ones_of_more (suc (suc b)) e h = absurd (omega (arith, h))

  pub within_but_one : is_within_but_one own other ≡ true
  within_but_one = le-leb _ _ (ones_of_more (bit_at more n) refl (bit_at-lt more n))
