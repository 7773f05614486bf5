-- The extras behind a URL: brackets at the end of a text with no bracket between them.
use Rattle.std.proofs.Common.{◌≡◌, ◌≢◌, ℕ, zero, suc, ◌+◌, ◌-◌, ◌<◌, Bool, true, false, List, [], ◌∷◌, ◌++◌}
use Rattle.std.proofs.Common.{length, take, drop, get_or, ◌⊎◌, inl, inr, refl, ap, sym, ◌∙◌, arith}
use Rattle.std.proofs.Common.{append_assoc, length-append, length-drop}
use Rattle.std.specs.Prelude.{All}
use Rattle.std.proofs.lemmas.Bool.Decides.{nat_tests}
use Rattle.std.proofs.lemmas.List.{append_cancel_right, take-append-drop, drop-append-le, drop_more}
use Rattle.std.proofs.lemmas.List.{get_or-drop, get_or-append_right}
use Rattle.std.proofs.lemmas.List.Elements.{All-from_get_or, All-get_or}
use Rattle.pep508_url.specs.Splits.{is_bracket, IsLastBracket, IsExtrasSplit}

zero_left : (n : ℕ) → n - n ≡ 0
zero_left n = omega arith

one_off : (k : ℕ) → k ≡ suc k - 1
one_off k = omega arith

cons_read : (b : ℕ) (bs : List ℕ) (k : ℕ) → 0 < k → get_or (b ∷ bs) k 0 ≡ get_or bs (k - 1) 0
cons_read b bs zero h = absurd (omega (arith, h))
cons_read b bs (suc k) h = ap (λ n. get_or bs n 0) (one_off k)

-- the last bracket before the closing one, where it opens
pub split_at_open : (text inner : List ℕ) (place : ℕ) → text ≡ inner ++ 93 ∷ [] → IsLastBracket inner place → get_or inner place 0 ≡ 91
    → IsExtrasSplit text (take place text) (drop place text)
split_at_open text inner place e last here = record {
  inside = drop (place + 1) inner;
  brackets =
      ap (drop place) e ∙ drop-append-le place inner (93 ∷ []) (omega (arith, last.within))
      ∙ ap (λ xs. xs ++ 93 ∷ []) (drop_more inner place 0 last.within ∙ ap (λ b. b ∷ drop (place + 1) inner) here);
  plain = All-from_get_or (λ b. is_bracket b ≡ false) (drop (place + 1) inner) 0 (λ i small.
      let same = get_or-drop (place + 1) inner i 0 in
      ap is_bracket same ∙ last.after (place + 1 + i) (omega arith) (omega (arith, length-drop (place + 1) inner)));
  whole = sym (take-append-drop place text);
}

regroup : (url inside : List ℕ) → url ++ 91 ∷ (inside ++ 93 ∷ []) ≡ (url ++ 91 ∷ inside) ++ 93 ∷ []
regroup url inside = sym (append_assoc url (91 ∷ inside) (93 ∷ []))

whole_is : (text url extras : List ℕ) (split : IsExtrasSplit text url extras) → text ≡ (url ++ 91 ∷ split.inside) ++ 93 ∷ []
whole_is text url extras split = split.whole ∙ ap (λ xs. url ++ xs) split.brackets ∙ regroup url split.inside

pub no_end : (text : List ℕ) → ((front : List ℕ) → text ≢ front ++ 93 ∷ []) → (url extras : List ℕ) → IsExtrasSplit text url extras → ⊥
no_end text none url extras split = none (url ++ 91 ∷ split.inside) (whole_is text url extras split)

inner_is : (text inner url extras : List ℕ) → text ≡ inner ++ 93 ∷ [] → (split : IsExtrasSplit text url extras) → inner ≡ url ++ 91 ∷ split.inside
inner_is text inner url extras e split = append_cancel_right inner (url ++ 91 ∷ split.inside) (93 ∷ []) (sym e ∙ whole_is text url extras split)

opens : (inner url inside : List ℕ) → inner ≡ url ++ 91 ∷ inside → get_or inner (length url) 0 ≡ 91
opens inner url inside e = ap (λ xs. get_or xs (length url) 0) e ∙ get_or-append_right url (91 ∷ inside) (length url) (length url) 0 refl (omega arith) ∙ ap (λ n. get_or (91 ∷ inside) n 0) (zero_left (length url))

opens_within : (inner url inside : List ℕ) → inner ≡ url ++ 91 ∷ inside → length url < length inner
opens_within inner url inside e = let l = ap length e in let a = length-append url (91 ∷ inside) in omega arith

true_not_false : (b : Bool) → b ≡ true → b ≡ false → ⊥
true_not_false b t f = absurd (cc)

bracket_at : (inner url inside : List ℕ) → inner ≡ url ++ 91 ∷ inside → is_bracket (get_or inner (length url) 0) ≡ true
bracket_at inner url inside e = ap is_bracket (opens inner url inside e)

pub no_bracket : (text inner : List ℕ) → text ≡ inner ++ 93 ∷ []
    → All (λ b. is_bracket b ≡ false) inner
    → (url extras : List ℕ) → IsExtrasSplit text url extras → ⊥
no_bracket text inner e none url extras split =
    let is = inner_is text inner url extras e split in
    true_not_false _ (bracket_at inner url split.inside is) (All-get_or (λ b. is_bracket b ≡ false) inner (length url) 0 (opens_within inner url split.inside is) none)

behind_open : (inner url inside : List ℕ) (k : ℕ) → inner ≡ url ++ 91 ∷ inside → All (λ b. is_bracket b ≡ false) inside
    → length url < k → k < length inner → is_bracket (get_or inner k 0) ≡ false
behind_open inner url inside k e plain above within =
    let l = ap length e in let a = length-append url (91 ∷ inside) in
    let read = get_or-append_right url (91 ∷ inside) (length url) k 0 refl (omega arith) in
    let past = cons_read 91 inside (k - length url) (omega arith) in
    ap is_bracket (ap (λ xs. get_or xs k 0) e ∙ read ∙ past)
    ∙ All-get_or (λ b. is_bracket b ≡ false) inside (k - length url - 1) 0 (omega arith) plain

three : (a b : ℕ) → (a < b) ⊎ ((a ≡ b) ⊎ (b < a))
three a b = grind (arith, nat_tests)

pub closed_last : (text inner : List ℕ) (place : ℕ) → text ≡ inner ++ 93 ∷ [] → IsLastBracket inner place
    → get_or inner place 0 ≢ 91 → (url extras : List ℕ) → IsExtrasSplit text url extras → ⊥
closed_last text inner place e last other url extras split =
    let is = inner_is text inner url extras e split in
    elim (three place (length url)) [
      | inl before ↦ true_not_false _ (bracket_at inner url split.inside is) (last.after (length url) before (opens_within inner url split.inside is))
      | inr at_or_behind ↦ elim at_or_behind [
        | inl at ↦ other (ap (λ k. get_or inner k 0) at ∙ opens inner url split.inside is)
        | inr behind ↦ true_not_false _ last.bracket (behind_open inner url split.inside place is split.plain behind last.within)
      ]
    ]
