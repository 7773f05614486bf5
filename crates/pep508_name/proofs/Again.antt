-- Normal names.
use Rattle.std.proofs.Common.{◌≡◌, ◌↔◌, ℕ, IsTrue, inl, inr, Bool, true, false, List, [], ◌∷◌, Option, Some}
use Rattle.std.proofs.Common.{None, option_map, refl, ap, sym, ◌∙◌, arith}
use Rattle.std.proofs.lemmas.Bool.Decides.{nat_tests}
use Rattle.std.proofs.lemmas.Slice.Eq.{bytes_eq-Decides}
use Rattle.std.proofs.lemmas.Str.Ascii.{lowercase-lowercase}
use Rattle.std.specs.Char.{to_ascii_lowercase}
use Rattle.pep508_name.specs.Name.{is_alphanumeric, is_separator, is_name, normal_name, name_of, name_eq}
use Rattle.pep508_name.proofs.Walk.{with_byte, behind, written, two, behind_separator, behind_letter}
use Rattle.pep508_name.proofs.Walk.{behind_none}
use Rattle.pep508_name.proofs.Parts.{name_of-empty, name_of-refused, name_of-begun, named}

lowercase_letter : (b : ℕ) → is_alphanumeric b ≡ true → is_alphanumeric (to_ascii_lowercase b) ≡ true
lowercase_letter b h = grind (arith, nat_tests)

twice : (b : ℕ) → to_ascii_lowercase (to_ascii_lowercase b) ≡ to_ascii_lowercase b
twice b = lowercase-lowercase b

-- what was written of a letter reads as itself
again_letter : (s : Bool) (b : ℕ) (more : List ℕ) → is_alphanumeric b ≡ true → behind false more ≡ Some more → behind false (with_byte s b more) ≡ Some (with_byte s b more)
again_letter true b more letter e =
    behind_letter true (to_ascii_lowercase b) more (lowercase_letter b letter) ∙ ap (option_map (with_byte true (to_ascii_lowercase b))) e
    ∙ ap (λ x. Some (45 ∷ x ∷ more)) (twice b)
again_letter false b more letter e =
    behind_letter false (to_ascii_lowercase b) more (lowercase_letter b letter) ∙ ap (option_map (with_byte false (to_ascii_lowercase b))) e
    ∙ ap (λ x. Some (x ∷ more)) (twice b)

-- the same, from what was read
from_letter : (s : Bool) (b : ℕ) (read : Option (List ℕ)) (more : List ℕ) → is_alphanumeric b ≡ true → ((m : List ℕ) → read ≡ Some m → behind false m ≡ Some m)
    → option_map (with_byte s b) read ≡ Some more → behind false more ≡ Some more
from_letter s b None more letter ih e = absurd (cc)
from_letter s b (Some m) more letter ih e =
    let same : with_byte s b m ≡ more = cc in
    ap (behind false) (sym same) ∙ again_letter s b m letter (ih m refl) ∙ ap Some same

-- what is written reads as itself
behind_again : (s : Bool) (bs more : List ℕ) → behind s bs ≡ Some more → behind false more ≡ Some more
behind_again true [] more e = absurd (cc)
behind_again false [] more e = let none : [] ≡ more = cc in ap (behind false) (sym none) ∙ ap Some none
behind_again s (b ∷ bs) more e = elim (two (is_separator b)) [
  | inl sep ↦ behind_again true bs more (sym (behind_separator s b bs sep) ∙ e)
  | inr sep ↦ elim (two (is_alphanumeric b)) [
    | inl letter ↦ from_letter s b (behind false bs) more letter (behind_again false bs) (sym (behind_letter s b bs letter) ∙ e)
    | inr letter ↦ absurd (cc (sym (behind_none s b bs sep letter) ∙ e))
  ]
]

from_begun : (b : ℕ) (read : Option (List ℕ)) (name : List ℕ) → is_alphanumeric b ≡ true → ((m : List ℕ) → read ≡ Some m → behind false m ≡ Some m)
    → written (to_ascii_lowercase b ∷ []) read ≡ Some name → name_of name ≡ Some name
from_begun b None name letter ih e = absurd (cc)
from_begun b (Some m) name letter ih e =
    let same : to_ascii_lowercase b ∷ m ≡ name = cc in
    ap name_of (sym same) ∙ name_of-begun (to_ascii_lowercase b) m (lowercase_letter b letter)
    ∙ ap (written (to_ascii_lowercase (to_ascii_lowercase b) ∷ [])) (ih m refl) ∙ ap (λ x. Some (x ∷ m)) (twice b) ∙ ap Some same

pub normal_again : (text name : List ℕ) → name_of text ≡ Some name → name_of name ≡ Some name
normal_again [] name h = absurd (cc (sym name_of-empty ∙ h))
normal_again (b ∷ bs) name h = elim (two (is_alphanumeric b)) [
  | inl letter ↦ from_begun b (behind false bs) name letter (behind_again false bs) (sym (name_of-begun b bs letter) ∙ h)
  | inr letter ↦ absurd (cc (sym (name_of-refused b bs letter) ∙ h))
]

pub normal_form_again : (text name : List ℕ) → is_name text ≡ true → name ≡ normal_name text → name_of name ≡ Some name
normal_form_again text name h e = ap name_of e ∙ normal_again text (normal_name text) (named text h) ∙ ap Some (sym e)

pub equal_is_same : (a b : List ℕ) → IsTrue (name_eq a b) ↔ (a ≡ b)
equal_is_same a b = bytes_eq-Decides a b
