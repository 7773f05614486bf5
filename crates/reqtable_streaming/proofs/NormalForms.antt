-- Names in normal form, read and written byte by byte.
use Rattle.std.proofs.Common.{◌≡◌, ◌∙◌, ℕ, zero, suc, ◌+◌, ◌<◌, ◌≤◌, Bool, true, false, if◌then◌else◌, List, [], ◌∷◌, ◌++◌, length, take, drop}
use Rattle.std.proofs.Common.{get_or, Option, Some, None, option_map, refl, ap, sym, subst, arith, true≢false}
use Rattle.std.proofs.lemmas.Grind.{common_steps}
use Rattle.std.proofs.lemmas.List.{drop_all, length-take-le, get_or-take}
use Rattle.std.specs.Char.{to_ascii_lowercase}
use Rattle.pep508_name.specs.Name.{is_alphanumeric, is_alphanumeric_at, is_name, name_of, normal_name}
use Rattle.pep508_name.proofs.Walk.{with_byte, behind, written, behind_separator, behind_letter}
use Rattle.pep508_name.proofs.Parts.{no_more, name_of-begun}
use Rattle.reqtable_streaming.specs.PlainLines.{AddsByte}

-- the list from a place on
pub from_place : (xs : List ℕ) (i : ℕ) → i < length xs → drop i xs ≡ get_or xs i 0 ∷ drop (i + 1) xs
from_place xs i h = grind (arith, common_steps)

-- what stands before a letter or digit is written
abbrev opened : Bool → List ℕ
opened s = if s then 45 ∷ [] else []

with_opened : (name : List ℕ) (s : Bool) (b : ℕ) → name ++ with_byte s b [] ≡ (name ++ opened s) ++ to_ascii_lowercase b ∷ []
with_opened name true b = grind (arith, common_steps)
with_opened name false b = ap (λ xs. xs ++ to_ascii_lowercase b ∷ []) (no_more name)

written_more : (name : List ℕ) (s : Bool) (b : ℕ) (more : Option (List ℕ))
    → written name (option_map (with_byte s b) more) ≡ written (name ++ with_byte s b []) more
written_more name s b None = refl
written_more name true b (Some more) = ap Some (grind (arith, common_steps))
written_more name false b (Some more) = ap Some (grind (arith, common_steps))

-- the name of a text that begins as names do is what its bytes write
begins : (text : List ℕ) → is_alphanumeric_at text 0 ≡ true → written [] (behind false text) ≡ name_of text
begins [] h = absurd (cc)
begins (b ∷ bs) h =
    ap (written []) (behind_letter false b bs h) ∙ written_more [] false b (behind false bs) ∙ sym (name_of-begun b bs h)

begins_front : (line : List ℕ) (n : ℕ) → 0 < n → is_alphanumeric_at line 0 ≡ true → is_alphanumeric_at (take n line) 0 ≡ true
begins_front [] n some h = absurd (cc)
begins_front (b ∷ bs) zero some h = absurd (omega (arith, some))
begins_front (b ∷ bs) (suc n) some h = h

pub begun : (line : List ℕ) (n : ℕ) → 0 < n → is_alphanumeric_at line 0 ≡ true
    → written [] (behind false (take n line)) ≡ name_of (take n line)
begun line n some h = begins (take n line) (begins_front line n some h)

-- a name does not begin with a space
pub some_name : (line : List ℕ) (at : ℕ) → is_alphanumeric_at line 0 ≡ true → get_or line at 0 ≡ 32 → 0 < at
some_name [] at h e = absurd (cc)
some_name (b ∷ bs) zero h e = absurd (true≢false (sym h ∙ ap is_alphanumeric e))
some_name (b ∷ bs) (suc at) h e = omega arith

module _ (xs : List ℕ) (i : ℕ) (r : Option (List ℕ)) where
  step_by : (s t : Bool) (old new : List ℕ) → i < length xs → AddsByte s t (get_or xs i 0) old new
      → written old (behind s (drop i xs)) ≡ r → written new (behind t (drop (i + 1) xs)) ≡ r
  step_by s true old new h adds e =
      let rest = drop (i + 1) xs in
      ap (λ name. written name (behind true rest)) adds.1
      ∙ sym (ap (written old) (ap (behind s) (from_place xs i h) ∙ behind_separator s (get_or xs i 0) rest adds.0)) ∙ e
  step_by s false old new h adds e =
      let b = get_or xs i 0 in
      let rest = drop (i + 1) xs in
      ap (λ name. written name (behind false rest)) (adds.1 ∙ sym (with_opened old s b))
      ∙ sym (ap (written old) (ap (behind s) (from_place xs i h) ∙ behind_letter s b rest adds.0)
      ∙ written_more old s b (behind false rest))
      ∙ e

-- one byte more of what is before a place
pub step : (line old new : List ℕ) (at n : ℕ) (s t : Bool) → at < n → n ≤ length line → AddsByte s t (get_or line at 0) old new
    → written old (behind s (drop at (take n line))) ≡ name_of (take n line)
    → written new (behind t (drop (at + 1) (take n line))) ≡ name_of (take n line)
step line old new at n s t below within adds e =
    let long : length (take n line) ≡ n = length-take-le n line within in
    let there : at < length (take n line) = omega (arith, long, below) in
    let same : get_or (take n line) at 0 ≡ get_or line at 0 = get_or-take n line at 0 below in
    let P : ℕ → Type 0 = λ b. AddsByte s t b old new in
    step_by (take n line) at (name_of (take n line)) s t old new there (subst P (sym same) adds) e

-- nothing is left
pub ends : (name xs : List ℕ) (i : ℕ) (r : Option (List ℕ)) → length xs ≤ i
    → written name (behind false (drop i xs)) ≡ r → r ≡ Some name
ends name xs i r h e =
    sym e ∙ ap (λ rest. written name (behind false rest)) (drop_all i xs h) ∙ ap Some (sym (no_more name))

pub short : (line : List ℕ) (n : ℕ) → n ≤ length line → length (take n line) ≤ n
short line n within = omega (arith, length-take-le n line within)

by_test : (t : Bool) (name text : List ℕ) → (if t then Some name else None) ≡ Some text → t ≡ true
by_test true name text e = refl
by_test false name text e = absurd (cc)

pub is_named : (text form : List ℕ) → name_of text ≡ Some form → is_name text ≡ true
unfolding name_of
is_named text form e = by_test (is_name text) (normal_name text) form e
