-- Names that are their own normal form.
use Rattle.std.proofs.Common.{◌≡◌, ℕ, ◌&&◌, ◌||◌, inl, inr, Bool, true, false, not, cond, if◌then◌else◌, eqb}
use Rattle.std.proofs.Common.{List, [], ◌∷◌, ◌++◌, Some, None, option_map, refl, ap, sym, ◌∙◌, arith}
use Rattle.std.proofs.lemmas.Bool.Decides.{nat_tests}
use Rattle.std.specs.Char.{is_ascii_digit, is_ascii_lowercase, to_ascii_lowercase}
use Rattle.pep508_name.specs.Name.{is_alphanumeric, is_separator, is_name, normal_name, name_of}
use Rattle.pep508_name.proofs.Walk.{with_byte, behind, written, two, behind_separator, behind_letter}
use Rattle.pep508_name.proofs.Parts.{name_of-begun}
use Rattle.pep508_name.proofs.Steps.{opened}

abbrev pub is_small : ℕ → Bool
is_small byte = is_ascii_lowercase byte || is_ascii_digit byte

-- small letters and digits with single `-` between some, behind what may end a name (a letter or digit) or may
-- not (a `-`, or nothing)
abbrev pub stays : Bool → List ℕ → Bool
stays may_end [] = may_end
stays may_end (byte ∷ bytes) =
    cond (eqb byte 45) (may_end && stays false bytes) (is_small byte && stays true bytes)

by_dash : (m : Bool) (b : ℕ) (bs : List ℕ) → eqb b 45 ≡ true → stays m (b ∷ bs) ≡ true → m && stays false bs ≡ true
by_dash m b bs dash h = sym (ap (λ t. cond t (m && stays false bs) (is_small b && stays true bs)) dash) ∙ h

by_small : (m : Bool) (b : ℕ) (bs : List ℕ) → eqb b 45 ≡ false → stays m (b ∷ bs) ≡ true → is_small b && stays true bs ≡ true
by_small m b bs other h = sym (ap (λ t. cond t (m && stays false bs) (is_small b && stays true bs)) other) ∙ h

small_letter : (b : ℕ) → is_small b ≡ true → is_alphanumeric b ≡ true
small_letter b h = grind (arith, nat_tests)

small_same : (b : ℕ) → is_small b ≡ true → to_ascii_lowercase b ≡ b
small_same b h = grind (arith, nat_tests)

dash_is : (b : ℕ) → eqb b 45 ≡ true → b ≡ 45
dash_is b h = grind (arith, nat_tests)

dash_separates : (b : ℕ) → eqb b 45 ≡ true → is_separator b ≡ true
dash_separates b h = grind (arith, nat_tests)

both : (x y : Bool) → x && y ≡ true → (x ≡ true) × (y ≡ true)
both true y h = (refl, h)
both false y h = absurd (cc)

-- a `-` stays behind a letter or digit, and what follows it
kept_dash : (m : Bool) (b : ℕ) (bs : List ℕ) → eqb b 45 ≡ true → m && stays false bs ≡ true
    → (stays false bs ≡ true → behind true bs ≡ Some (45 ∷ bs))
    → behind (not m) (b ∷ bs) ≡ Some (opened (not m) ++ b ∷ bs)
kept_dash false b bs dash h ih = absurd (cc)
kept_dash true b bs dash h ih =
    behind_separator false b bs (dash_separates b dash) ∙ ih h ∙ ap (λ x. Some (x ∷ bs)) (sym (dash_is b dash))

-- a small letter or digit stays
with_small : (s : Bool) (b : ℕ) (bs : List ℕ) → to_ascii_lowercase b ≡ b → with_byte s b bs ≡ opened s ++ b ∷ bs
with_small true b bs same = ap (λ x. 45 ∷ x ∷ bs) same
with_small false b bs same = ap (λ x. x ∷ bs) same

kept_small : (s : Bool) (b : ℕ) (bs : List ℕ) → is_small b ≡ true → behind false bs ≡ Some bs
    → behind s (b ∷ bs) ≡ Some (opened s ++ b ∷ bs)
kept_small s b bs small ih =
    behind_letter s b bs (small_letter b small) ∙ ap (option_map (with_byte s b)) ih
    ∙ ap Some (with_small s b bs (small_same b small))

-- what stays is written as it stands
kept : (m : Bool) (bs : List ℕ) → stays m bs ≡ true → behind (not m) bs ≡ Some (opened (not m) ++ bs)
kept true [] h = refl
kept false [] h = absurd (cc)
kept m (b ∷ bs) h = elim (two (eqb b 45)) [
  | inl dash ↦ kept_dash m b bs dash (by_dash m b bs dash h) (kept false bs)
  | inr other ↦
      let parts = both (is_small b) (stays true bs) (by_small m b bs other h) in
      kept_small (not m) b bs parts.0 (kept true bs parts.1)
]

begun : (b : ℕ) (bs : List ℕ) → is_small b && stays true bs ≡ true → name_of (b ∷ bs) ≡ Some (b ∷ bs)
begun b bs h =
    let parts = both (is_small b) (stays true bs) h in
    name_of-begun b bs (small_letter b parts.0)
    ∙ ap (written (to_ascii_lowercase b ∷ [])) (kept true bs parts.1)
    ∙ ap (λ x. Some (x ∷ bs)) (small_same b parts.0)

named_as : (text : List ℕ) → stays false text ≡ true → name_of text ≡ Some text
named_as [] h = absurd (cc)
named_as (b ∷ bs) h = elim (two (eqb b 45)) [
  | inl dash ↦ absurd (let never : false ≡ true = by_dash false b bs dash h in cc)
  | inr other ↦ begun b bs (by_small false b bs other h)
]

by_test : (t : Bool) (name text : List ℕ) → (if t then Some name else None) ≡ Some text → (t ≡ true) × (name ≡ text)
by_test true name text e = (refl, cc)
by_test false name text e = absurd (cc)

pub stays_is_normal : (text : List ℕ) → stays false text ≡ true → (is_name text ≡ true) × (normal_name text ≡ text)
unfolding name_of
stays_is_normal text h = by_test (is_name text) (normal_name text) text (named_as text h)
