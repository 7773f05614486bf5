-- A text has no more columns than twice its bytes.
use Rattle.std.proofs.Common.{◌≡◌, ℕ, ◌+◌, ◌*◌, ◌<◌, ◌≤◌, false, List, ◌++◌, length, fold, chars, encode_utf8}
use Rattle.std.proofs.Common.{sym, ap, ◌∙◌, arith, length-append, ⊎_elim}
use Rattle.std.proofs.lemmas.Bool.{cases_lt}
use Rattle.std.proofs.lemmas.Bool.Decides.{nat_tests}
use Rattle.std.proofs.lemmas.Str.{chars-nil, chars_past_char, IsUtf8-past_char, length-encode}
use Rattle.std.proofs.lemmas.Str.{len_utf8_bounds}
use Rattle.std.proofs.lemmas.List.{nil_from_length}
use Rattle.std.specs.Char.{len_utf8}
use Rattle.std.specs.Str.{IsUtf8}
use Rattle.unicode_width.specs.Width.{char_width}
use Rattle.unicode_width.proofs.Rules.{width_or_zero-le}
use Rattle.underline.specs.Underline.{char_columns, columns}

-- an ASCII character takes a column at most
narrow : (c : ℕ) → c < 128 → char_columns c ≤ 1
unfolding char_width
narrow c h = grind (arith, nat_tests)

two_bytes : (c : ℕ) → 128 ≤ c → 2 ≤ len_utf8 c
two_bytes c h = grind (arith, nat_tests)

pub char_fits : (c : ℕ) → char_columns c ≤ 2 * len_utf8 c
char_fits c =
    ⊎_elim
    (λ (low : c < 128). omega (arith, narrow c low, (len_utf8_bounds c).0))
    (λ (high : 128 ≤ c). omega (arith, two_bytes c high, width_or_zero-le false c))
    (cases_lt c 128)

-- so many columns were counted of a text, and these bytes of it are left
pub record IsCounted (text rest : List ℕ) (total : ℕ) : Type 0 where
  pub utf8 : IsUtf8 rest
  pub counts : fold (λ n c. n + char_columns c) total (chars rest) ≡ fold (λ n c. n + char_columns c) 0 (chars text)
  pub fits : total + 2 * length rest ≤ 2 * length text

pub counted_more : (text rest later : List ℕ) (total c : ℕ) → IsCounted text rest total → rest ≡ encode_utf8 c ++ later
    → IsCounted text later (total + char_columns c)
counted_more text rest later total c counted at = record {
  utf8 = IsUtf8-past_char rest later c counted.utf8 at;
  counts =
      ap (fold (λ n d. n + char_columns d) total) (sym (chars_past_char rest later c counted.utf8 at)) ∙ counted.counts;
  fits =
      (let before = counted.fits in
      omega (arith, before, char_fits c, ap length at, length-append (encode_utf8 c) later, length-encode c));
}

pub counted_all : (text rest : List ℕ) (total : ℕ) → IsCounted text rest total → length rest ≡ 0 → total ≡ columns text
unfolding columns
counted_all text rest total counted none =
    ap (fold (λ n c. n + char_columns c) total) (sym (ap chars (nil_from_length rest none) ∙ chars-nil)) ∙ counted.counts
