-- The digits at the front of a text.
use Rattle.std.proofs.Common.{◌≡◌, ℕ, ◌^◌, ◌<◌, ◌&&◌, Bool, true, false, cond, eqb, nat_lt, if◌then◌else◌}
use Rattle.std.proofs.Common.{List, [], ◌∷◌, length, Option, Some, None, refl, ap, sym, ◌∙◌, arith}
use Rattle.std.proofs.lemmas.Bool.Decides.{nat_tests}
use Rattle.std.specs.Char.{is_ascii_digit, digit_value}
use Rattle.std.specs.Str.Parse.{AllDigits, digits_value}
use Rattle.std.specs.Str.{all_ascii_digits}
use Rattle.pep440_text.specs.Reading.{leading_digits, behind_digits}

digit_below : (b : ℕ) → is_ascii_digit b ≡ true → digit_value b < 10
digit_below b d = grind (arith, nat_tests)

all_by : (b : ℕ) (bs : List ℕ) (t : Bool) → is_ascii_digit b ≡ t → AllDigits 10 (leading_digits bs)
    → AllDigits 10 (cond t (b ∷ leading_digits bs) [])
all_by b bs true e a = (digit_below b e, a)
all_by b bs false e a = tt

pub leading_are_digits : (text : List ℕ) → AllDigits 10 (leading_digits text)
leading_are_digits [] = tt
leading_are_digits (b ∷ bs) = all_by b bs (is_ascii_digit b) refl (leading_are_digits bs)

-- ---- digits alone

pub not_none : (b : ℕ) (bs : List ℕ) → eqb (length (b ∷ bs)) 0 ≡ false
not_none b bs = grind (arith, nat_tests)

alone_by : (b : ℕ) (bs : List ℕ) (t : Bool) → all_ascii_digits bs ≡ eqb (length (behind_digits bs)) 0
    → (t && all_ascii_digits bs) ≡ eqb (length (cond t (behind_digits bs) (b ∷ bs))) 0
alone_by b bs true e = e
alone_by b bs false e = sym (not_none b bs)

-- a text is digits where nothing follows those at its front
pub digits_alone : (text : List ℕ) → all_ascii_digits text ≡ eqb (length (behind_digits text)) 0
digits_alone [] = refl
digits_alone (b ∷ bs) = alone_by b bs (is_ascii_digit b) (digits_alone bs)

whole_cut : (b : ℕ) (bs : List ℕ) (t : Bool) → (length (behind_digits bs) ≡ 0 → leading_digits bs ≡ bs)
    → length (cond t (behind_digits bs) (b ∷ bs)) ≡ 0 → cond t (b ∷ leading_digits bs) [] ≡ b ∷ bs
whole_cut b bs true f h = ap (λ ds. b ∷ ds) (f h)
whole_cut b bs false f h = absurd (omega (arith, h))

digits_whole : (text : List ℕ) → length (behind_digits text) ≡ 0 → leading_digits text ≡ text
digits_whole [] h = refl
digits_whole (b ∷ bs) h = whole_cut b bs (is_ascii_digit b) (digits_whole bs) h

-- the number that digits are, if 64 bits hold it
abbrev fitting : List ℕ → Option ℕ
fitting digits = if nat_lt (digits_value 10 digits) (2 ^ 64) then Some (digits_value 10 digits) else None

-- the number that a text is
abbrev pub whole_number_of : List ℕ → Option ℕ
whole_number_of text =
    if all_ascii_digits text && nat_lt (digits_value 10 text) (2 ^ 64) then Some
    (digits_value 10 text) else None

-- what the test on digits makes of it
abbrev whole_if : List ℕ → Bool → Option ℕ
whole_if text t = if t && nat_lt (digits_value 10 text) (2 ^ 64) then Some (digits_value 10 text) else None

whole_by_test : (text : List ℕ) (t : Bool) → all_ascii_digits text ≡ t
    → whole_if text t ≡ whole_number_of text
whole_by_test text t e = ap (whole_if text) (sym e)

-- where nothing follows the digits at the front, and where something does
pub is_whole : (text digits rest : List ℕ) (found : Option ℕ) → digits ≡ leading_digits text
    → rest ≡ behind_digits text → length rest ≡ 0
    → found ≡
    (if nat_lt (digits_value 10 digits) (2 ^ 64) then Some (digits_value 10 digits) else None) → found ≡ whole_number_of text
is_whole text digits rest found d r n f =
    let none : length (behind_digits text) ≡ 0 = ap length (sym r) ∙ n in
    f ∙ ap fitting (d ∙ digits_whole text none) ∙ whole_by_test text true
    (digits_alone text ∙ ap (λ m. eqb m 0) none)

pub is_not_whole : (text rest : List ℕ) → rest ≡ behind_digits text → eqb (length rest) 0 ≡ false
    → None ≡ whole_number_of text
is_not_whole text rest r n =
    whole_by_test text false (digits_alone text ∙ ap (λ bs. eqb (length bs) 0) (sym r) ∙ n)
