-- A text, shown character after character.
use Rattle.std.proofs.Common.{◌≡◌, ◌∙◌, ◌++◌, ℕ, List, length, chars, encode_utf8, encode_utf8_all, flat_map}
use Rattle.std.proofs.Common.{sym, ap, append_assoc, append-nil}
use Rattle.std.proofs.lemmas.Str.{chars-nil, chars_past_char, IsUtf8-past_char, encodes-append}
use Rattle.std.proofs.lemmas.List.{nil_from_length}
use Rattle.std.specs.Str.{IsUtf8}

-- these bytes show the characters of a text, each by `f`, but for those of `rest`
pub record IsTold (f : ℕ → List ℕ) (text rest told : List ℕ) : Type 0 where
  pub utf8 : IsUtf8 rest
  pub tells : told ++ encode_utf8_all (flat_map f (chars rest)) ≡ encode_utf8_all (flat_map f (chars text))

-- one more was shown
pub told_more : (f : ℕ → List ℕ) (text rest later told new : List ℕ) (c : ℕ) → IsTold f text rest told
    → rest ≡ encode_utf8 c ++ later → new ≡ told ++ encode_utf8_all (f c) → IsTold f text later new
told_more f text rest later told new c before at made = record {
  utf8 = IsUtf8-past_char rest later c before.utf8 at;
  tells =
      ap (λ bytes. bytes ++ encode_utf8_all (flat_map f (chars later))) made
      ∙ append_assoc told (encode_utf8_all (f c)) (encode_utf8_all (flat_map f (chars later)))
      ∙ ap (λ bytes. told ++ bytes) (sym (encodes-append (f c) (flat_map f (chars later))))
      ∙ ap (λ cs. told ++ encode_utf8_all (flat_map f cs)) (sym (chars_past_char rest later c before.utf8 at))
      ∙ before.tells;
}

-- all were shown
pub told_all : (f : ℕ → List ℕ) (text rest told : List ℕ) → IsTold f text rest told → length rest ≡ 0
    → told ≡ encode_utf8_all (flat_map f (chars text))
told_all f text rest told before none =
    sym (append-nil told)
    ∙ ap (λ cs. told ++ encode_utf8_all (flat_map f cs)) (sym (ap chars (nil_from_length rest none) ∙ chars-nil))
    ∙ before.tells
