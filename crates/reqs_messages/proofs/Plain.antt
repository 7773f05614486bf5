-- What is shown of a text hides nothing, and a text that hides nothing is shown as it is.
use Rattle.std.proofs.Common.{◌≡◌, ◌∙◌, ◌+◌, ◌/◌, ◌%◌, ◌<◌, ◌≤◌, ◌++◌, ◌∷◌, ℕ, true, false, cond}
use Rattle.std.proofs.Common.{nat_lt, List, [], chars, encode_utf8_all, flat_map, refl, ap, arith}
use Rattle.std.proofs.lemmas.Bool.{cond_both, cond-false, ltb-true, or_from, or_parts, and_from, and_parts}
use Rattle.std.proofs.lemmas.Bool.Decides.{nat_tests}
use Rattle.std.proofs.lemmas.List.Folds.{list_any-append}
use Rattle.std.proofs.lemmas.Str.{chars-encodes, encodes-chars, scalars-chars}
use Rattle.std.specs.Char.{digit_char}
use Rattle.std.specs.Char.Escape.{hex_digit_at, escape_unicode}
use Rattle.std.specs.List.{list_any}
use Rattle.std.specs.Str.{IsUtf8}
use lib.Utf8.{scalar, scalars, low_scalar}
use Rattle.reqs_messages.specs.Shown.{is_hidden, shown_char, shown_text}

-- ---- the characters of a number

below : (x : ℕ) → x % 16 < 16
below x = omega arith

digit : (P : ℕ → Type 0) → ((n : ℕ) → 48 ≤ n → n < 103 → P n) → (d : ℕ) → d < 16 → P (digit_char d)
digit P holds d h =
    cond_both (nat_lt d 10) (48 + d) (87 + d) P
    (λ e. holds (48 + d) (omega arith) (omega (arith, ltb-true d 10 e)))
    (λ e. holds (87 + d) (omega arith) (omega arith))

-- the digits from a place on, and the bracket
abbrev from_1 : ℕ → List ℕ
from_1 c = hex_digit_at 0x1 c ∷ 125 ∷ []

abbrev from_2 : ℕ → List ℕ
from_2 c = hex_digit_at 0x10 c ∷ from_1 c

abbrev from_3 : ℕ → List ℕ
from_3 c = hex_digit_at 0x100 c ∷ from_2 c

abbrev from_4 : ℕ → List ℕ
from_4 c = hex_digit_at 0x1000 c ∷ from_3 c

abbrev from_5 : ℕ → List ℕ
from_5 c = hex_digit_at 0x1_0000 c ∷ from_4 c

abbrev from_6 : ℕ → List ℕ
from_6 c = hex_digit_at 0x10_0000 c ∷ from_5 c

abbrev opened : List ℕ → List ℕ
opened rest = 92 ∷ 117 ∷ 123 ∷ rest

-- with so many digits at least
abbrev least_5 : ℕ → List ℕ
least_5 c = cond (nat_lt c 0x10_0000) (opened (from_5 c)) (opened (from_6 c))

abbrev least_4 : ℕ → List ℕ
least_4 c = cond (nat_lt c 0x1_0000) (opened (from_4 c)) (least_5 c)

abbrev least_3 : ℕ → List ℕ
least_3 c = cond (nat_lt c 0x1000) (opened (from_3 c)) (least_4 c)

abbrev least_2 : ℕ → List ℕ
least_2 c = cond (nat_lt c 0x100) (opened (from_2 c)) (least_3 c)

-- what holds of the bracket, and stays with a digit and with the characters before them, holds of `\u{..}`
module _ (Q : List ℕ → Type 0) (closing : Q (125 ∷ []))
    (step : (n : ℕ) (rest : List ℕ) → 48 ≤ n → n < 103 → Q rest → Q (n ∷ rest))
    (opening : (rest : List ℕ) → Q rest → Q (opened rest)) where
  place : (p c : ℕ) (rest : List ℕ) → Q rest → Q (hex_digit_at p c ∷ rest)
  place p c rest h = digit (λ n. Q (n ∷ rest)) (λ n low high. step n rest low high h) (c / p % 16) (below (c / p))

  holds_1 : (c : ℕ) → Q (from_1 c)
  holds_1 c = place 0x1 c (125 ∷ []) closing

  holds_2 : (c : ℕ) → Q (from_2 c)
  holds_2 c = place 0x10 c (from_1 c) (holds_1 c)

  holds_3 : (c : ℕ) → Q (from_3 c)
  holds_3 c = place 0x100 c (from_2 c) (holds_2 c)

  holds_4 : (c : ℕ) → Q (from_4 c)
  holds_4 c = place 0x1000 c (from_3 c) (holds_3 c)

  holds_5 : (c : ℕ) → Q (from_5 c)
  holds_5 c = place 0x1_0000 c (from_4 c) (holds_4 c)

  holds_6 : (c : ℕ) → Q (from_6 c)
  holds_6 c = place 0x10_0000 c (from_5 c) (holds_5 c)

  of_number : (c : ℕ) → Q (escape_unicode c)
  of_number c =
      cond_both (nat_lt c 0x10) (opened (from_1 c)) (least_2 c) Q (λ _. opening (from_1 c) (holds_1 c))
      (λ _. cond_both (nat_lt c 0x100) (opened (from_2 c)) (least_3 c) Q (λ _. opening (from_2 c) (holds_2 c))
      (λ _. cond_both (nat_lt c 0x1000) (opened (from_3 c)) (least_4 c) Q (λ _. opening (from_3 c) (holds_3 c))
      (λ _. cond_both (nat_lt c 0x1_0000) (opened (from_4 c)) (least_5 c) Q (λ _. opening (from_4 c) (holds_4 c))
      (λ _. cond_both (nat_lt c 0x10_0000) (opened (from_5 c)) (opened (from_6 c)) Q (λ _. opening (from_5 c) (holds_5 c))
      (λ _. opening (from_6 c) (holds_6 c))))))

-- ---- hidden characters

plain : (n : ℕ) → 32 ≤ n → n < 127 → is_hidden n ≡ false
plain n low high = grind (arith, nat_tests)

plain_number : (c : ℕ) → list_any is_hidden (escape_unicode c) ≡ false
plain_number =
    of_number (λ xs. list_any is_hidden xs ≡ false) refl
    (λ n rest low high h. or_from (is_hidden n) (list_any is_hidden rest) (plain n (omega arith) (omega arith)) h)
    (λ rest h. h)

plain_char : (c : ℕ) → list_any is_hidden (shown_char c) ≡ false
plain_char c =
    cond_both (is_hidden c) (escape_unicode c) (c ∷ []) (λ xs. list_any is_hidden xs ≡ false) (λ _. plain_number c)
    (λ e. or_from (is_hidden c) false e refl)

plain_chars : (cs : List ℕ) → list_any is_hidden (flat_map shown_char cs) ≡ false
plain_chars [] = refl
plain_chars (c ∷ cs) =
    list_any-append is_hidden (shown_char c) (flat_map shown_char cs)
    ∙ or_from (list_any is_hidden (shown_char c)) (list_any is_hidden (flat_map shown_char cs)) (plain_char c)
    (plain_chars cs)

-- ---- characters

scalars_append : (cs ds : List ℕ) → scalars cs ≡ true → scalars ds ≡ true → scalars (cs ++ ds) ≡ true
scalars_append [] ds p q = q
scalars_append (c ∷ cs) ds p q =
    let parts : (scalar c ≡ true) × (scalars cs ≡ true) = and_parts (scalar c) (scalars cs) p in
    and_from (scalar c) (scalars (cs ++ ds)) parts.0 (scalars_append cs ds parts.1 q)

scalar_number : (c : ℕ) → scalars (escape_unicode c) ≡ true
scalar_number =
    of_number (λ xs. scalars xs ≡ true) refl
    (λ n rest low high h. and_from (scalar n) (scalars rest) (low_scalar n (omega arith)) h) (λ rest h. h)

scalar_char : (c : ℕ) → scalar c ≡ true → scalars (shown_char c) ≡ true
scalar_char c h =
    cond_both (is_hidden c) (escape_unicode c) (c ∷ []) (λ xs. scalars xs ≡ true) (λ _. scalar_number c)
    (λ _. and_from (scalar c) true h refl)

scalar_chars : (cs : List ℕ) → scalars cs ≡ true → scalars (flat_map shown_char cs) ≡ true
scalar_chars [] h = refl
scalar_chars (c ∷ cs) h =
    let parts : (scalar c ≡ true) × (scalars cs ≡ true) = and_parts (scalar c) (scalars cs) h in
    scalars_append (shown_char c) (flat_map shown_char cs) (scalar_char c parts.0) (scalar_chars cs parts.1)

-- ---- texts

pub hides_nothing : (text : List ℕ) → IsUtf8 text → list_any is_hidden (chars (shown_text text)) ≡ false
unfolding shown_text
hides_nothing text utf8 =
    ap (list_any is_hidden)
    (chars-encodes (flat_map shown_char (chars text)) (scalar_chars (chars text) (scalars-chars text utf8)))
    ∙ plain_chars (chars text)

themselves : (cs : List ℕ) → list_any is_hidden cs ≡ false → flat_map shown_char cs ≡ cs
themselves [] h = refl
themselves (c ∷ cs) h =
    let parts : (is_hidden c ≡ false) × (list_any is_hidden cs ≡ false) =
    or_parts (is_hidden c) (list_any is_hidden cs) h in
    ap (λ xs. xs ++ flat_map shown_char cs) (cond-false (is_hidden c) (escape_unicode c) (c ∷ []) parts.0)
    ∙ ap (λ xs. c ∷ xs) (themselves cs parts.1)

pub as_it_is : (text : List ℕ) → IsUtf8 text → list_any is_hidden (chars text) ≡ false → shown_text text ≡ text
unfolding shown_text
as_it_is text utf8 none = ap encode_utf8_all (themselves (chars text) none) ∙ encodes-chars text utf8
