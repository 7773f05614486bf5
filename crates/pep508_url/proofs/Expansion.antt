-- The parts of a text between its `$`.
use Rattle.std.proofs.Common.{◌≡◌, ℕ, suc, ◌+◌, ◌<◌, ◌≤◌, nat_lt, not, Bool, true, false, cond, eqb, List, []}
use Rattle.std.proofs.Common.{◌∷◌, ◌++◌, length, Some, None, inl, inr, ◌⊎◌, refl, ap, sym, ◌∙◌, arith}
use Rattle.std.specs.Prelude.{flat_map}
use Rattle.std.specs.List.{slice_split, onto_first, position_or_len}
use Rattle.std.proofs.lemmas.Bool.Decides.{nat_tests}
use Rattle.std.proofs.lemmas.List.Splits.{slice_split_first, slice_split-cons_no}
use Rattle.std.proofs.lemmas.Grind.{common_steps}
use Rattle.std.proofs.lemmas.List.{flat_map_more}
use Rattle.std.proofs.lemmas.List.Sums.{prefix_len-le-length}
use Rattle.pep508_url.specs.Cuts.{cut}
use Rattle.pep508_url.proofs.CutTexts.{cut_by}
use Rattle.pep508_url.specs.Vars.{Variables}
use Rattle.pep508_url.specs.Expansion.{expanded_parts, expanded, behind_dollar}

pub two : (b : Bool) → (b ≡ true) ⊎ (b ≡ false)
two true = inl refl
two false = inr refl

zero_not_more : (n : ℕ) → 0 ≡ suc n → ⊥
zero_not_more n h = omega arith

one_less : (m n : ℕ) → 1 + m ≡ suc n → m ≡ n
one_less m n h = omega arith

abbrev steps : (p : ℕ → Bool) (b : ℕ) (bs : List ℕ) → Bool → ℕ
steps p b bs passes = cond (not passes) (1 + position_or_len p bs) 0

-- where no byte passes, the list is its one part
pub split_alone : (p : ℕ → Bool) (bs : List ℕ) → position_or_len p bs ≡ length bs → slice_split p bs ≡ bs ∷ []
split_alone p [] h = refl
split_alone p (b ∷ bs) h = elim (two (p b)) [
  | inl here ↦ absurd (zero_not_more (length bs) (sym (ap (steps p b bs) here) ∙ h))
  | inr past ↦
      slice_split-cons_no p b bs past
      ∙ ap (onto_first b) (split_alone p bs (one_less _ _ (sym (ap (steps p b bs) past) ∙ h)))
]

pub reached : (a b : ℕ) → nat_lt a b ≡ true → a < b
reached a b h = grind (arith, nat_tests)

parts_none : (byte : ℕ) (text : List ℕ) → cut byte text ≡ None
    → nat_lt (position_or_len (λ b. eqb b byte) text) (length text) ≡ false
parts_none byte text h = elim (two (nat_lt (position_or_len (λ b. eqb b byte) text) (length text))) [
  | inl here ↦ absurd (cc (sym (cut_by byte text true here) ∙ h))
  | inr past ↦ past
]

parts_some : (byte : ℕ) (text : List ℕ) (parts : List ℕ × List ℕ) → cut byte text ≡ Some parts
    → nat_lt (position_or_len (λ b. eqb b byte) text) (length text) ≡ true
parts_some byte text parts h = elim (two (nat_lt (position_or_len (λ b. eqb b byte) text) (length text))) [
  | inl here ↦ here
  | inr past ↦ absurd (cc (sym (cut_by byte text false past) ∙ h))
]

at_end : (a b : ℕ) → a ≤ b → nat_lt a b ≡ false → a ≡ b
at_end a b le h = grind (arith, nat_tests)

-- a text that is not cut is its one part
pub split_uncut : (byte : ℕ) (text : List ℕ) → cut byte text ≡ None → slice_split (λ b. eqb b byte) text ≡ text ∷ []
split_uncut byte text h =
    split_alone (λ b. eqb b byte) text (at_end _ _ (prefix_len-le-length (λ b. not (eqb b byte)) text) (parts_none byte text h))

pub some_same : {A : Type 0} (x y : A) → Some x ≡ Some y → x ≡ y
some_same x y h = cc

-- a text that is cut has a first part, and the parts of what follows
pub split_cut : (byte : ℕ) (text : List ℕ) (parts : List ℕ × List ℕ) → cut byte text ≡ Some parts
    → slice_split (λ b. eqb b byte) text ≡ parts.0 ∷ slice_split (λ b. eqb b byte) parts.1
split_cut byte text parts h =
    let inside = parts_some byte text parts h in
    let same = some_same _ _ (sym (cut_by byte text true inside) ∙ h) in
    slice_split_first (λ b. eqb b byte) text 0 (reached _ _ inside)
    ∙ ap (λ (x : List ℕ × List ℕ). x.0 ∷ slice_split (λ b. eqb b byte) x.1) same

nothing_behind : (text : List ℕ) → text ++ [] ≡ text
nothing_behind text = grind (arith, common_steps)

-- a text without `$` is its own expansion
pub expanded_uncut : (vars : Variables) (text : List ℕ) → cut 36 text ≡ None → expanded vars text ≡ text
unfolding expanded
expanded_uncut vars text h = ap (expanded_parts vars) (split_uncut 36 text h) ∙ nothing_behind text

pub expanded_cut : (vars : Variables) (text : List ℕ) (parts : List ℕ × List ℕ) → cut 36 text ≡ Some parts
    → expanded vars text ≡ parts.0 ++ flat_map (behind_dollar vars) (slice_split (λ b. eqb b 36) parts.1)
unfolding expanded
expanded_cut vars text parts h = ap (expanded_parts vars) (split_cut 36 text parts h)

-- one part more
pub expanded_more : (vars : Variables) (first old new part : List ℕ) (before after : List (List ℕ))
    → old ≡ first ++ flat_map (behind_dollar vars) before → new ≡ old ++ behind_dollar vars part
    → after ≡ before ++ part ∷ [] → new ≡ first ++ flat_map (behind_dollar vars) after
expanded_more vars first old new part before after o n a =
    n ∙ ap (λ xs. xs ++ behind_dollar vars part) o ∙ flat_map_more (behind_dollar vars) first before part
    ∙ sym (ap (λ parts. first ++ flat_map (behind_dollar vars) parts) a)
