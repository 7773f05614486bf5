-- Bytes that are text, and bytes that are none.
use Rattle.std.proofs.Common.{◌≡◌, ℕ, Bool, true, false, List, Result, if◌then◌else◌, Err, refl, ap, sym}
use Rattle.std.proofs.lemmas.Str.{is_utf8-from_IsUtf8, IsUtf8-from_is_utf8}
use Rattle.std.specs.Str.{is_utf8, IsUtf8}
use Rattle.std.specs.Str.Lossy.{utf8_valid_len}
use Rattle.reqtable_candidates.specs.TextLines.{text_lines, each_line, lines_of_text}

fails_by : (bytes : List ℕ) (t : Bool) → is_utf8 bytes ≡ t → (IsUtf8 bytes → ⊥) → t ≡ false
fails_by bytes true e h = absurd (h (IsUtf8-from_is_utf8 bytes e))
fails_by bytes false e h = refl

module _ {A E : Type 0} (read : ℕ → List ℕ → Result A E) (no_text : ℕ → E) (bytes : List ℕ) where
  pub text_is_read : IsUtf8 bytes → lines_of_text read no_text bytes ≡ each_line read (text_lines bytes)
  unfolding lines_of_text
  text_is_read u =
      ap (λ b. if b then each_line read (text_lines bytes) else Err (no_text (utf8_valid_len bytes))) (is_utf8-from_IsUtf8 bytes u)

  pub no_text_is_read : (IsUtf8 bytes → ⊥) → lines_of_text read no_text bytes ≡ Err (no_text (utf8_valid_len bytes))
  unfolding lines_of_text
  no_text_is_read h =
      ap (λ b. if b then each_line read (text_lines bytes) else Err (no_text (utf8_valid_len bytes))) (fails_by bytes (is_utf8 bytes) refl h)

  found_by : (t : Bool) (outcome : Result (List A) E) → is_utf8 bytes ≡ t
      → (if t then each_line read (text_lines bytes) else Err (no_text (utf8_valid_len bytes))) ≡ outcome
      → ((offset : ℕ) → outcome ≡ Err (no_text offset) → ⊥)
      → IsUtf8 bytes × (each_line read (text_lines bytes) ≡ outcome)
  found_by true outcome e h others = (IsUtf8-from_is_utf8 bytes e, h)
  found_by false outcome e h others = absurd (others (utf8_valid_len bytes) (sym h))

  -- what is no fault of the bytes is that of a text
  pub text_found : (outcome : Result (List A) E) → lines_of_text read no_text bytes ≡ outcome
      → ((offset : ℕ) → outcome ≡ Err (no_text offset) → ⊥)
      → IsUtf8 bytes × (each_line read (text_lines bytes) ≡ outcome)
  unfolding lines_of_text
  text_found outcome h others = found_by (is_utf8 bytes) outcome refl h others
