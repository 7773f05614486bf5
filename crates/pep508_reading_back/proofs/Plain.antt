-- Texts of ASCII characters, none of which ends a key or a quoted text.
use Rattle.std.proofs.Common.{◌≡◌, ℕ, ◌<◌, ◌==◌, ◌||◌, Bool, true, false, not, nat_lt, List, [], ◌∷◌, ◌++◌}
use Rattle.std.proofs.Common.{refl, ap, sym, ◌∙◌, arith}
use Rattle.std.proofs.lemmas.Bool.Decides.{nat_tests}
use Rattle.std.proofs.lemmas.Str.{chars-append, chars_from_encodes, IsUtf8-from_ascii}
use Rattle.std.proofs.lemmas.Str.Ascii.{IsAscii-nil, IsAscii-cons, encodes-IsAscii}
use Rattle.std.specs.Char.{is_ascii_alphanumeric}
use Rattle.std.specs.List.{AllByRecursion, list_all}
use Rattle.std.specs.Prelude.{encode_utf8_all}
use Rattle.std.specs.Str.{chars, IsAscii}
use Rattle.version_ranges.proofs.Membership.{all_weaker}
use Rattle.pep508_error.proofs.Tests.{and_parts}

-- letters, digits, and `!`, `*`, `+`, `-`, `.`, `_`
abbrev pub is_plain : ℕ → Bool
is_plain b =
    is_ascii_alphanumeric b || (b == 33 || (b == 42 || (b == 43 || (b == 45 || (b == 46 || b == 95)))))

abbrev pub Plain : List ℕ → Type 0
Plain = AllByRecursion (λ b. is_plain b ≡ true)

pub all_from : (test : ℕ → Bool) (bs : List ℕ) → list_all test bs ≡ true → AllByRecursion (λ b. test b ≡ true) bs
all_from test [] h = tt
all_from test (b ∷ bs) h =
    let parts = and_parts (test b) (list_all test bs) h in (parts.0, all_from test bs parts.1)

pub plain_from : (bs : List ℕ) → list_all is_plain bs ≡ true → Plain bs
plain_from = all_from is_plain

plain_below : (b : ℕ) → is_plain b ≡ true → b < 128
plain_below b h = grind (arith, nat_tests)

plain_no_quote : (b : ℕ) → is_plain b ≡ true → (b == 39) ≡ false
plain_no_quote b h = grind (arith, nat_tests)

pub plain_ascii : (bs : List ℕ) → Plain bs → IsAscii bs
plain_ascii [] h = IsAscii-nil
plain_ascii (b ∷ bs) h = IsAscii-cons b bs (plain_below b h.0) (plain_ascii bs h.1)

not_passes : (b : Bool) → not b ≡ true → b ≡ false
not_passes false h = refl
not_passes true h = absurd (cc)

pub none_from : (test : ℕ → Bool) (bs : List ℕ) → list_all (λ b. not (test b)) bs ≡ true →
    AllByRecursion (λ b. test b ≡ false) bs
none_from test bs h =
    all_weaker (λ b. not (test b) ≡ true) (λ b. test b ≡ false) (λ b k. not_passes (test b) k) bs
    (all_from (λ b. not (test b)) bs h)

pub plain_unquoted : (bs : List ℕ) → Plain bs → AllByRecursion (λ b. (b == 39) ≡ false) bs
plain_unquoted = all_weaker (λ b. is_plain b ≡ true) (λ b. (b == 39) ≡ false) plain_no_quote

below_test : (b : ℕ) → nat_lt b 128 ≡ true → b < 128
below_test b h = grind (arith, nat_tests)

pub ascii_by : (bs : List ℕ) → list_all (λ b. nat_lt b 128) bs ≡ true → IsAscii bs
ascii_by [] h = IsAscii-nil
ascii_by (b ∷ bs) h =
    let parts = and_parts (nat_lt b 128) (list_all (λ b. nat_lt b 128) bs) h in
    IsAscii-cons b bs (below_test b parts.0) (ascii_by bs parts.1)

-- ---- characters

pub ascii_encoded : (bs : List ℕ) → IsAscii bs → encode_utf8_all bs ≡ bs
ascii_encoded bs a = encodes-IsAscii bs a

pub ascii_chars : (bs : List ℕ) → IsAscii bs → chars bs ≡ bs
ascii_chars bs a = sym (chars_from_encodes bs bs (IsUtf8-from_ascii bs a) (encodes-IsAscii bs a))

pub front_chars : (front rest : List ℕ) → IsAscii front → chars (front ++ rest) ≡ front ++ chars rest
front_chars front rest a =
    chars-append front rest (IsUtf8-from_ascii front a) ∙ ap (λ cs. cs ++ chars rest) (ascii_chars front a)
