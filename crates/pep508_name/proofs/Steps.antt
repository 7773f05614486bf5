-- The steps of the loop that reads a name.
use Rattle.std.proofs.Common.{◌≡◌, ℕ, ◌+◌, ◌<◌, ◌≤◌, Bool, true, false, List, [], ◌∷◌, ◌++◌, length, drop}
use Rattle.std.proofs.Common.{get_or, Option, Some, None, option_map, refl, ap, sym, ◌∙◌, arith}
use Rattle.std.proofs.lemmas.Grind.{common_steps}
use Rattle.std.proofs.lemmas.List.{drop_all}
use Rattle.std.specs.Char.{to_ascii_lowercase}
use Rattle.std.proofs.lemmas.Str.Ascii.{lowercase_ascii}
use Rattle.pep508_name.specs.Name.{is_alphanumeric, is_separator, name_of}
use Rattle.pep508_name.proofs.Walk.{with_byte, behind, written, small, behind_separator, behind_letter}
use Rattle.pep508_name.proofs.Walk.{behind_none}
use Rattle.pep508_name.proofs.Parts.{no_more, name_of-empty, name_of-refused, name_of-begun}

-- the list from a place on
from_place : (xs : List ℕ) (i : ℕ) → i < length xs → drop i xs ≡ get_or xs i 0 ∷ drop (i + 1) xs
from_place xs i h = grind (arith, common_steps)

written_more : (name : List ℕ) (s : Bool) (b : ℕ) (more : Option (List ℕ)) → written name (option_map (with_byte s b) more) ≡ written (name ++ with_byte s b []) more
written_more name s b None = refl
written_more name true b (Some more) = ap Some (grind (arith, common_steps))
written_more name false b (Some more) = ap Some (grind (arith, common_steps))

step_separator : (name : List ℕ) (s : Bool) (xs : List ℕ) (i : ℕ) (r : Option (List ℕ)) → i < length xs → is_separator (get_or xs i 0) ≡ true
    → written name (behind s (drop i xs)) ≡ r → written name (behind true (drop (i + 1) xs)) ≡ r
step_separator name s xs i r h sep e = sym (ap (written name) (ap (behind s) (from_place xs i h) ∙ behind_separator s (get_or xs i 0) (drop (i + 1) xs) sep)) ∙ e

step_byte : (name : List ℕ) (s : Bool) (xs : List ℕ) (i : ℕ) (r : Option (List ℕ)) → i < length xs → is_alphanumeric (get_or xs i 0) ≡ true
    → written name (behind s (drop i xs)) ≡ r → written (name ++ with_byte s (get_or xs i 0) []) (behind false (drop (i + 1) xs)) ≡ r
step_byte name s xs i r h letter e =
    sym (ap (written name) (ap (behind s) (from_place xs i h) ∙ behind_letter s (get_or xs i 0) (drop (i + 1) xs) letter)
    ∙ written_more name s (get_or xs i 0) (behind false (drop (i + 1) xs)))
    ∙ e

-- a byte that is neither ends what may be a name
step_none : (name : List ℕ) (s : Bool) (xs : List ℕ) (i : ℕ) (whole : List ℕ) → i < length xs
    → is_separator (get_or xs i 0) ≡ false → is_alphanumeric (get_or xs i 0) ≡ false
    → written name (behind s (drop i xs)) ≡ Some whole → ⊥
step_none name s xs i whole h sep letter e =
    let none : None ≡ Some whole =
    sym (ap (written name) (ap (behind s) (from_place xs i h) ∙ behind_none s (get_or xs i 0) (drop (i + 1) xs) sep letter)) ∙ e in
    absurd (cc)

-- in a name each byte is a separator, or a letter or digit
letter_by : (name : List ℕ) (s : Bool) (xs : List ℕ) (i : ℕ) (whole : List ℕ) (t : Bool) → i < length xs
    → is_separator (get_or xs i 0) ≡ false → is_alphanumeric (get_or xs i 0) ≡ t
    → written name (behind s (drop i xs)) ≡ Some whole → is_alphanumeric (get_or xs i 0) ≡ true
letter_by name s xs i whole true h sep letter e = letter
letter_by name s xs i whole false h sep letter e = absurd (step_none name s xs i whole h sep letter e)

first_by : (b : ℕ) (bs name : List ℕ) (t : Bool) → name_of (b ∷ bs) ≡ Some name → is_alphanumeric b ≡ t → is_alphanumeric b ≡ true
first_by b bs name true e h = h
first_by b bs name false e h = absurd (let none = sym (name_of-refused b bs h) ∙ e in cc)

-- the name that is still to come is the whole
pub begins : (text name : List ℕ) → name_of text ≡ Some name → written [] (behind false text) ≡ Some name
begins [] name e = absurd (let none = sym name_of-empty ∙ e in cc)
begins (b ∷ bs) name e =
    let letter = first_by b bs name (is_alphanumeric b) e refl in
    ap (written []) (behind_letter false b bs letter) ∙ written_more [] false b (behind false bs) ∙ sym (name_of-begun b bs letter) ∙ e

ends_by : (name whole : List ℕ) (s : Bool) → written name (behind s []) ≡ Some whole → name ≡ whole
ends_by name whole true e = absurd (cc)
ends_by name whole false e = no_more name ∙ (let same : name ++ [] ≡ whole = cc in same)

-- nothing is left
pub ends : (name whole : List ℕ) (s : Bool) (xs : List ℕ) (i : ℕ) → length xs ≤ i
    → written name (behind s (drop i xs)) ≡ Some whole → name ≡ whole
ends name whole s xs i h e =
    ends_by name whole s (sym (ap (λ rest. written name (behind s rest)) (drop_all i xs h)) ∙ e)

letter_pushed : (before name encoded : List ℕ) (ch b : ℕ) → name ≡ before ++ encoded → (ch < 128 → encoded ≡ ch ∷ []) → ch ≡ to_ascii_lowercase b → is_alphanumeric b ≡ true
    → name ≡ before ++ to_ascii_lowercase b ∷ []
letter_pushed before name encoded ch b e small_one is letter =
    let low : ch < 128 = omega (arith, is, lowercase_ascii b (small b letter)) in
    e ∙ ap (λ xs. before ++ xs) (small_one low ∙ ap (λ x. x ∷ []) is)

pub separator_seen : (name next : List ℕ) (s s' : Bool) (xs : List ℕ) (i : ℕ) (whole : List ℕ) → i < length xs
    → is_separator (get_or xs i 0) ≡ true → next ≡ name → s' ≡ true
    → written name (behind s (drop i xs)) ≡ Some whole → written next (behind s' (drop (i + 1) xs)) ≡ Some whole
separator_seen name next s s' xs i whole h sep e f g =
    ap (λ ys. written ys (behind s' (drop (i + 1) xs))) e ∙ ap (λ t. written name (behind t (drop (i + 1) xs))) f
    ∙ step_separator name s xs i (Some whole) h sep g

-- what stands before a letter or digit is written
abbrev pub opened : Bool → List ℕ
opened true = 45 ∷ []
opened false = []

with_opened : (name : List ℕ) (s : Bool) (b : ℕ) → (name ++ opened s) ++ to_ascii_lowercase b ∷ [] ≡ name ++ with_byte s b []
with_opened name true b = grind (arith, common_steps)
with_opened name false b = ap (λ xs. xs ++ to_ascii_lowercase b ∷ []) (sym (no_more name))

pub letter_seen : (name before next encoded : List ℕ) (s s' : Bool) (ch : ℕ) (xs : List ℕ) (i : ℕ) (whole : List ℕ)
    → i < length xs → is_separator (get_or xs i 0) ≡ false → before ≡ name ++ opened s → next ≡ before ++ encoded
    → (ch < 128 → encoded ≡ ch ∷ []) → ch ≡ to_ascii_lowercase (get_or xs i 0) → s' ≡ false
    → written name (behind s (drop i xs)) ≡ Some whole → written next (behind s' (drop (i + 1) xs)) ≡ Some whole
letter_seen name before next encoded s s' ch xs i whole h sep begun pushed small_one is off e =
    let letter = letter_by name s xs i whole (is_alphanumeric (get_or xs i 0)) h sep refl e in
    ap (λ t. written next (behind t (drop (i + 1) xs))) off
    ∙ ap (λ ys. written ys (behind false (drop (i + 1) xs)))
    (letter_pushed before next encoded ch (get_or xs i 0) pushed small_one is letter
    ∙ ap (λ ys. ys ++ to_ascii_lowercase (get_or xs i 0) ∷ []) begun ∙ with_opened name s (get_or xs i 0))
    ∙ step_byte name s xs i (Some whole) h letter e
