-- Bits that stand in others, and bits of all terms.
use Rattle.std.proofs.Common.{◌≡◌, ℕ, Bool, true, List, [], ◌∷◌, fold, sym, ap, ◌∙◌, arith}
use Rattle.std.specs.Cmp.{unsigned_Decides}
use Rattle.std.specs.Int.Bits.{bit_or, or_self, or_zero_l}
use Rattle.std.specs.List.{list_all}
use Rattle.std.proofs.lemmas.Nat.{or_comm}
use Rattle.std.proofs.lemmas.Nat.Bits.{bit_at_or, same_from_bits}
use Rattle.pep508_marker_text_laws.proofs.Removals.{both}
use Rattle.pep508_clauses.specs.Near.{is_within}

-- all bits of the second stand in the first
abbrev pub Within : ℕ → ℕ → Type 0
Within all bits = bit_or bits all ≡ all

pub is_so : (all bits : ℕ) → Within all bits → is_within all bits ≡ true
is_so all bits e = (unsigned_Decides (bit_or bits all) all).1 e

pub so_is : (all bits : ℕ) → is_within all bits ≡ true → Within all bits
so_is all bits e = (unsigned_Decides (bit_or bits all) all).0 e

or_assoc : (a b c : ℕ) → bit_or (bit_or a b) c ≡ bit_or a (bit_or b c)
or_assoc a b c =
    same_from_bits (bit_or (bit_or a b) c) (bit_or a (bit_or b c))
    (λ i. omega (arith, bit_at_or (bit_or a b) c i, bit_at_or a b i, bit_at_or a (bit_or b c) i, bit_at_or b c i))

both_within : (all a b : ℕ) → Within all a → Within all b → Within all (bit_or a b)
both_within all a b x y = or_assoc a b all ∙ ap (bit_or a) y ∙ x

pub within_all : (all part bits : ℕ) → Within all part → Within part bits → Within all bits
within_all all part bits x y =
    ap (bit_or bits) (sym x) ∙ sym (or_assoc bits part all) ∙ ap (λ n. bit_or n all) y ∙ x

pub left_within : (a b : ℕ) → Within (bit_or a b) a
left_within a b = sym (or_assoc a a b) ∙ ap (λ n. bit_or n b) (or_self a)

pub right_within : (a b : ℕ) → Within (bit_or a b) b
right_within a b = ap (bit_or b) (or_comm a b) ∙ left_within b a ∙ or_comm b a

module _ {T : Type 0} (bits : T → ℕ) where
  abbrev pub joined_behind : ℕ → List T → ℕ
  joined_behind from terms = fold (λ all term. bit_or all (bits term)) from terms

  pub first_within : (from : ℕ) (terms : List T) → Within (joined_behind from terms) from
  first_within from [] = or_self from
  first_within from (term ∷ later) =
      within_all _ (bit_or from (bits term)) from (first_within (bit_or from (bits term)) later)
      (left_within from (bits term))

  -- the bits of terms that have a property by which theirs stand in others
  pub joined_within : (all : ℕ) (has : T → Bool) → ((term : T) → has term ≡ true → Within all (bits term)) →
      (from : ℕ) (terms : List T) → Within all from → list_all has terms ≡ true →
      Within all (joined_behind from terms)
  joined_within all has so from [] x e = x
  joined_within all has so from (term ∷ later) x e =
      let parts = both (has term) (list_all has later) e in
      joined_within all has so (bit_or from (bits term)) later
      (both_within all from (bits term) x (so term parts.0)) parts.1

pub nothing_within : (all : ℕ) → Within all 0
nothing_within all = or_zero_l all
