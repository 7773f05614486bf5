-- The characters of an encoding are those that were encoded, whatever numbers they are.
use Rattle.std.proofs.Common.{◌≡◌, ℕ, zero, ◌+◌, ◌-◌, ◌*◌, ◌/◌, ◌%◌, ◌<◌, ◌≤◌, Bool, true, false, cond, List}
use Rattle.std.proofs.Common.{[]}
use Rattle.std.proofs.Common.{◌∷◌, ◌++◌, refl, ap, ◌∙◌, arith}
use Rattle.std.specs.Prelude.{nat_lt}
use Rattle.std.proofs.lemmas.Bool.Decides.{nat_tests}
use Rattle.std.specs.Str.{chars, chars_after, continuation_len, lead_bits, encode_utf8_all}
use lib.Utf8.{encode}

whole : (c : ℕ) (bs : List ℕ) → chars_after zero c bs ≡ c ∷ chars bs
unfolding chars
whole c [] = refl
whole c (b ∷ bs) = refl

led : (a n v : ℕ) (bs : List ℕ) → continuation_len a ≡ n → lead_bits a ≡ v → chars (a ∷ bs) ≡ chars_after n v bs
unfolding chars
led a n v bs p q = ap (λ m. chars_after m (lead_bits a) bs) p ∙ ap (λ w. chars_after n w bs) q

below : (c n : ℕ) → nat_lt c n ≡ true → c < n
below c n h = grind (arith, nat_tests)

one_byte : (c : ℕ) (rest : List ℕ) → c < 128 → chars (c ∷ rest) ≡ c ∷ chars rest
one_byte c rest h = led c 0 c rest (grind (arith, nat_tests)) (grind (arith, nat_tests)) ∙ whole c rest

two_bytes : (a b c : ℕ) (rest : List ℕ) → 192 ≤ a → a < 224 → (a - 192) * 64 + (b - 128) ≡ c
    → chars (a ∷ b ∷ rest) ≡ c ∷ chars rest
two_bytes a b c rest low high e =
    led a 1 (a - 192) (b ∷ rest) (grind (arith, nat_tests)) (grind (arith, nat_tests))
    ∙ whole ((a - 192) * 64 + (b - 128)) rest ∙ ap (λ x. x ∷ chars rest) e

three_bytes : (a b d c : ℕ) (rest : List ℕ) → 224 ≤ a → a < 240 → ((a - 224) * 64 + (b - 128)) * 64 + (d - 128) ≡ c
    → chars (a ∷ b ∷ d ∷ rest) ≡ c ∷ chars rest
three_bytes a b d c rest low high e =
    led a 2 (a - 224) (b ∷ d ∷ rest) (grind (arith, nat_tests)) (grind (arith, nat_tests))
    ∙ whole (((a - 224) * 64 + (b - 128)) * 64 + (d - 128)) rest ∙ ap (λ x. x ∷ chars rest) e

four_bytes : (a b d e c : ℕ) (rest : List ℕ) → 240 ≤ a
    → (((a - 240) * 64 + (b - 128)) * 64 + (d - 128)) * 64 + (e - 128) ≡ c → chars (a ∷ b ∷ d ∷ e ∷ rest) ≡ c ∷ chars rest
four_bytes a b d e c rest low h =
    led a 3 (a - 240) (b ∷ d ∷ e ∷ rest) (grind (arith, nat_tests)) (grind (arith, nat_tests))
    ∙ whole ((((a - 240) * 64 + (b - 128)) * 64 + (d - 128)) * 64 + (e - 128)) rest ∙ ap (λ x. x ∷ chars rest) h

decoded_by : (c : ℕ) (rest : List ℕ) (one two three : Bool) → nat_lt c 128 ≡ one → nat_lt c 2048 ≡ two → nat_lt c 65536 ≡ three
    → chars (cond one (c ∷ []) (cond two ((192 + c / 64) ∷ (128 + c % 64) ∷ []) (cond three
    ((224 + c / 4096) ∷ (128 + (c / 64) % 64) ∷ (128 + c % 64) ∷ [])
    ((240 + c / 262144) ∷ (128 + (c / 4096) % 64) ∷ (128 + (c / 64) % 64) ∷ (128 + c % 64) ∷ []))) ++ rest) ≡ c ∷ chars rest
decoded_by c rest true two three e1 e2 e3 = one_byte c rest (below c 128 e1)
decoded_by c rest false true three e1 e2 e3 =
    let small : c < 2048 = below c 2048 e2 in
    two_bytes (192 + c / 64) (128 + c % 64) c rest (omega arith) (omega arith) (omega arith)
decoded_by c rest false false true e1 e2 e3 =
    let small : c < 65536 = below c 65536 e3 in
    three_bytes (224 + c / 4096) (128 + (c / 64) % 64) (128 + c % 64) c rest (omega arith) (omega arith) (omega arith)
decoded_by c rest false false false e1 e2 e3 =
    four_bytes (240 + c / 262144) (128 + (c / 4096) % 64) (128 + (c / 64) % 64) (128 + c % 64) c rest (omega arith) (omega arith)

decoded_one : (c : ℕ) (rest : List ℕ) → chars (encode c ++ rest) ≡ c ∷ chars rest
unfolding encode
decoded_one c rest = decoded_by c rest (nat_lt c 128) (nat_lt c 2048) (nat_lt c 65536) refl refl refl

pub decoded : (cs : List ℕ) → chars (encode_utf8_all cs) ≡ cs
unfolding chars
decoded [] = refl
decoded (c ∷ cs) = decoded_one c (encode_utf8_all cs) ∙ ap (λ ds. c ∷ ds) (decoded cs)
