-- What the laws of this crate rest on.
use Rattle.std.proofs.Common.{◌≡◌, ◌≢◌, ℕ, ◌+◌, ◌<◌, nat_lt, not, ◌&&◌, Bool, true, false, if◌then◌else◌, eqb}
use Rattle.std.proofs.Common.{List, [], ◌∷◌, ◌++◌, length, take, drop, get_or, Option, Some, None, inl, inr}
use Rattle.std.proofs.Common.{refl, ap, sym, subst, ◌∙◌, arith}
use Rattle.std.specs.Prelude.{flat_map, codes, option_and_then}
use Rattle.std.specs.List.{slice_split, onto_first, position_or_len, before_first, after_first, starts_with}
use Rattle.std.proofs.lemmas.Bool.Decides.{nat_tests}
use Rattle.std.proofs.lemmas.List.{take-append-drop, drop_more}
use Rattle.std.proofs.lemmas.List.Splits.{slice_split-cons_no, slice_split-cons_yes}
use Rattle.std.proofs.lemmas.List.Sums.{prefix_len_stops}
use Rattle.url.specs.Input.{trim_c0_control_and_space}
use Rattle.pep508_url.specs.Cuts.{behind, cut}
use Rattle.pep508_url.specs.Vars.{Variables}
use Rattle.pep508_url.specs.Expansion.{LacksOpening, expanded_parts, expanded, replaced, with_value}
use Rattle.pep508_url.specs.Expansion.{behind_dollar, reference}
use Rattle.pep508_url.proofs.CutTexts.{cut_by}
use Rattle.pep508_url.proofs.Expansion.{two, reached, some_same}
use Rattle.pep508_url.specs.Schemes.{is_scheme, if_scheme, scheme_split}

-- ---- cuts

stopped : (b byte : ℕ) → not (eqb b byte) ≡ false → b ≡ byte
stopped b byte h = grind (arith, nat_tests)

whole_at : (byte : ℕ) (text : List ℕ) → position_or_len (λ b. eqb b byte) text < length text
    → text ≡ before_first (λ b. eqb b byte) text ++ byte ∷ after_first (λ b. eqb b byte) text
whole_at byte text inside =
    let n = position_or_len (λ b. eqb b byte) text in
    let here = stopped (get_or text n 0) byte (prefix_len_stops (λ b. not (eqb b byte)) text 0 inside) in
    sym (take-append-drop n text)
    ∙ ap (λ rest. take n text ++ rest) (drop_more text n 0 inside ∙ ap (λ b. b ∷ drop (n + 1) text) here)

-- what a text was cut into puts it together
pub cut_whole : (byte : ℕ) (text : List ℕ) (parts : List ℕ × List ℕ) → cut byte text ≡ Some parts → text ≡ parts.0 ++ byte ∷ parts.1
cut_whole byte text parts h = elim (two (nat_lt (position_or_len (λ b. eqb b byte) text) (length text))) [
  | inl here ↦
      whole_at byte text (reached _ _ here)
      ∙ ap (λ (x : List ℕ × List ℕ). x.0 ++ byte ∷ x.1) (some_same _ _ (sym (cut_by byte text true here) ∙ h))
  | inr past ↦ absurd (cc (sym (cut_by byte text false past) ∙ h))
]

-- ---- schemes

schemed : (found : Option (List ℕ × List ℕ)) (parts : List ℕ × List ℕ) → option_and_then if_scheme found ≡ Some parts
    → found ≡ Some parts
schemed None parts h = absurd (cc)
schemed (Some found) parts h = elim (two (is_scheme found.0)) [
  | inl yes_scheme ↦ sym (ap (λ t. if t then Some found else None) yes_scheme) ∙ h
  | inr no_scheme ↦ absurd (cc (sym (ap (λ t. if t then Some found else None) no_scheme) ∙ h))
]

pub scheme_whole : (text : List ℕ) (parts : List ℕ × List ℕ) → scheme_split text ≡ Some parts
    → trim_c0_control_and_space text ≡ parts.0 ++ 58 ∷ parts.1
unfolding scheme_split
scheme_whole text parts h =
    cut_whole 58 (trim_c0_control_and_space text) parts (schemed (cut 58 (trim_c0_control_and_space text)) parts h)

-- ---- expansion

lacks_behind : (b : ℕ) (bs : List ℕ) → LacksOpening (b ∷ bs) → LacksOpening bs
lacks_behind b bs lacks front back e = lacks (b ∷ front) back (ap (λ xs. b ∷ xs) e)

-- the first part, where there is one
abbrev pub first_of_parts : List (List ℕ) → List ℕ
first_of_parts [] = []
first_of_parts (part ∷ parts) = part

pub same_number : (a b : ℕ) → eqb a b ≡ true → a ≡ b
same_number a b h = grind (arith, nat_tests)

no_brace_by : (c : ℕ) (cs : List ℕ) (found : Bool) → starts_with eqb (c ∷ cs) (codes "{") ≡ found → found ≡ false
    → behind (codes "{") (c ∷ cs) ≡ None
unfolding behind
no_brace_by c cs found e f = ap (λ t. if t then Some (drop (length (codes "{")) (c ∷ cs)) else None) (e ∙ f)

other_byte : (c : ℕ) → c ≢ 123 → (eqb 123 c && true) ≡ false
other_byte c h = grind (arith, nat_tests)

pub no_brace : (c : ℕ) (cs : List ℕ) → c ≢ 123 → behind (codes "{") (c ∷ cs) ≡ None
no_brace c cs h = no_brace_by c cs (starts_with eqb (c ∷ cs) (codes "{")) refl (other_byte c h)

pub nothing_behind : behind (codes "{") [] ≡ None
unfolding behind
nothing_behind = refl

first_onto : (c : ℕ) (parts : List (List ℕ)) → c ≢ 123 → behind (codes "{") (first_of_parts (onto_first c parts)) ≡ None
first_onto c [] h = no_brace c [] h
first_onto c (part ∷ parts) h = no_brace c part h

-- a part behind a `$` begins with no brace
no_opening : (bs : List ℕ) → LacksOpening (36 ∷ bs) → behind (codes "{") (first_of_parts (slice_split (λ b. eqb b 36) bs)) ≡ None
no_opening [] lacks = nothing_behind
no_opening (c ∷ cs) lacks = elim (two (eqb c 36)) [
  | inl dollar ↦ ap (λ parts. behind (codes "{") (first_of_parts parts)) (slice_split-cons_yes (λ b. eqb b 36) c cs dollar) ∙ nothing_behind
  | inr other ↦
      ap (λ parts. behind (codes "{") (first_of_parts parts)) (slice_split-cons_no (λ b. eqb b 36) c cs other)
      ∙ first_onto c (slice_split (λ b. eqb b 36) cs) (λ e. lacks [] cs (ap (λ x. 36 ∷ x ∷ cs) e))
]

dollar_stays : (vars : Variables) (part : List ℕ) → behind (codes "{") part ≡ None → behind_dollar vars part ≡ 36 ∷ part
unfolding behind_dollar reference
dollar_stays vars part h = ap (λ found. replaced part (option_and_then (with_value vars) (option_and_then (cut 125) found))) h

onto_some : (c : ℕ) (parts : List (List ℕ)) → onto_first c parts ≢ []
onto_some c [] e = absurd (cc)
onto_some c (part ∷ parts) e = absurd (cc)

pub split_some : (bs : List ℕ) → slice_split (λ b. eqb b 36) bs ≢ []
split_some [] e = absurd (cc)
split_some (c ∷ cs) e = elim (two (eqb c 36)) [
  | inl dollar ↦ absurd (cc (sym (slice_split-cons_yes (λ b. eqb b 36) c cs dollar) ∙ e))
  | inr other ↦ onto_some c (slice_split (λ b. eqb b 36) cs) (sym (slice_split-cons_no (λ b. eqb b 36) c cs other) ∙ e)
]

behind_first : (vars : Variables) (parts : List (List ℕ)) → parts ≢ [] → behind (codes "{") (first_of_parts parts) ≡ None
    → expanded_parts vars ([] ∷ parts) ≡ 36 ∷ expanded_parts vars parts
behind_first vars [] some none = absurd (some refl)
behind_first vars (part ∷ parts) some none = ap (λ xs. xs ++ flat_map (behind_dollar vars) parts) (dollar_stays vars part none)

pub onto_parts : (vars : Variables) (c : ℕ) (parts : List (List ℕ)) → parts ≢ []
    → expanded_parts vars (onto_first c parts) ≡ c ∷ expanded_parts vars parts
onto_parts vars c [] some = absurd (some refl)
onto_parts vars c (part ∷ parts) some = refl

stays : (vars : Variables) (bs : List ℕ) → LacksOpening bs → expanded_parts vars (slice_split (λ b. eqb b 36) bs) ≡ bs
stays vars [] lacks = refl
stays vars (b ∷ bs) lacks = elim (two (eqb b 36)) [
  | inl dollar ↦
      let is = same_number b 36 dollar in
      let same : LacksOpening (36 ∷ bs) = subst (λ (x : ℕ). LacksOpening (x ∷ bs)) is lacks in
      ap (expanded_parts vars) (slice_split-cons_yes (λ b. eqb b 36) b bs dollar)
      ∙ behind_first vars (slice_split (λ b. eqb b 36) bs) (split_some bs) (no_opening bs same)
      ∙ ap (λ xs. 36 ∷ xs) (stays vars bs (lacks_behind b bs lacks))
      ∙ sym (ap (λ x. x ∷ bs) is)
  | inr other ↦
      ap (expanded_parts vars) (slice_split-cons_no (λ b. eqb b 36) b bs other)
      ∙ onto_parts vars b (slice_split (λ b. eqb b 36) bs) (split_some bs)
      ∙ ap (λ xs. b ∷ xs) (stays vars bs (lacks_behind b bs lacks))
]

-- a text without `${` is its own expansion
pub expanded_stays : (vars : Variables) (text : List ℕ) → LacksOpening text → expanded vars text ≡ text
unfolding expanded
expanded_stays vars text lacks = stays vars text lacks
