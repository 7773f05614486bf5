-- Where the characters of a text begin.
use Rattle.std.proofs.Common.{◌≡◌, ℕ, ◌+◌, ◌-◌, ◌<◌, ◌≤◌, true, false, cond, List, [], ◌∷◌, ◌++◌, length}
use Rattle.std.proofs.Common.{take, drop, append_assoc, length-append, refl, sym, ap, subst, ◌∙◌, arith}
use Rattle.std.proofs.Common.{chars, Option, Some, None, MatchOption, IfSome, IfNone, zero-add, ⊎_elim}
use Rattle.std.proofs.lemmas.Bool.{cases_lt, and_parts}
use Rattle.std.proofs.lemmas.List.{drop-drop, length-drop, length-take-le, take-append-drop}
use Rattle.std.proofs.Math.Seq.{drop-length, drop-append_seam}
use Rattle.std.proofs.Math.ListN.{drop_of_length-le}
use Rattle.std.proofs.lemmas.Str.{scalars-chars, chars-encodes, chars-nil, IsCharBoundary-from_drop}
use Rattle.std.proofs.lemmas.Str.{IsCharBoundary-past_char, chars_past_char, drop_past_char, length-encode}
use Rattle.std.proofs.lemmas.Str.{IsUtf8-append, IsUtf8-encode, IsUtf8-drop, IsCharBoundary-at_seam}
use Rattle.std.specs.Char.{is_whitespace, encode_utf8, len_utf8, IsScalar}
use Rattle.std.specs.Str.{IsUtf8, IsCharBoundary, IsTrimStart, trim_start, all_scalars}
use Rattle.std.specs.Str.{skip_leading_whitespace}
use Rattle.pep508_error.specs.Spans.{IsSpan}

-- ---- behind white space

-- the place at which the end of a text begins
pub end_begins : (n : ℕ) (text : List ℕ) → drop (length text - length (drop n text)) text ≡ drop n text
end_begins n text =
    ⊎_elim
    (λ (over : length text < n).
    let none : drop n text ≡ [] = drop_of_length-le text (omega (arith, over)) in
    let all : length text - length (drop n text) ≡ length text = omega (arith, ap length none) in
    ap (λ k. drop k text) all ∙ drop-length text ∙ sym none)
    (λ (within : n ≤ length text).
    let at : length text - length (drop n text) ≡ n = omega (arith, within, length-drop n text) in
    ap (λ k. drop k text) at)
    (cases_lt (length text) n)

skipped_scalars : (cs : List ℕ) → all_scalars cs ≡ true → all_scalars (skip_leading_whitespace cs) ≡ true
skipped_scalars [] h = refl
skipped_scalars (c ∷ cs) h =
    elim (is_whitespace c) as (λ b. all_scalars (cond b (skip_leading_whitespace cs) (c ∷ cs)) ≡ true)
    [ true ↦ skipped_scalars cs (and_parts _ _ h).1 | false ↦ h ]

-- the characters of a text without the white space at its start
chars-trim_start : (text : List ℕ) → IsUtf8 text
    → chars (trim_start text) ≡ skip_leading_whitespace (chars text)
unfolding trim_start
chars-trim_start text u =
    chars-encodes (skip_leading_whitespace (chars text)) (skipped_scalars (chars text) (scalars-chars text u))

module _ (input rest trimmed : List ℕ) (position : ℕ) where
  -- where a text without the white space at its start begins in a longer text
  trimmed_begins : rest ≡ drop position input → IsTrimStart rest trimmed
      → drop (length input - length trimmed) input ≡ trimmed
  trimmed_begins at cut =
      let same : trimmed ≡ drop (position + cut.0) input =
      cut.1 ∙ ap (drop cut.0) at ∙ drop-drop cut.0 position input in
      ap (λ text. drop (length input - length text) input) same ∙ end_begins (position + cut.0) input ∙ sym same

  pub trimmed_boundary : rest ≡ drop position input → IsTrimStart rest trimmed → IsUtf8 trimmed
      → IsCharBoundary input (length input - length trimmed)
  trimmed_boundary at cut u =
      IsCharBoundary-from_drop input (length input - length trimmed) (omega arith)
      (subst IsUtf8 (sym (trimmed_begins at cut)) u)

  pub trimmed_chars : rest ≡ drop position input → IsTrimStart rest trimmed → trimmed ≡ trim_start rest
      → IsUtf8 rest
      → chars (drop (length input - length trimmed) input)
      ≡ skip_leading_whitespace (chars (drop position input))
  trimmed_chars at cut same u =
      ap chars (trimmed_begins at cut ∙ same) ∙ chars-trim_start rest u
      ∙ ap (λ text. skip_leading_whitespace (chars text)) at

-- ---- the first character

nothing : (text : List ℕ) → length text ≡ 0 → text ≡ []
nothing [] h = refl
nothing (b ∷ bs) h = cc

module _ (text later : List ℕ) (Same : Type 0) where
  pub first_char : (first : Option ℕ) → IsUtf8 text
      → MatchOption first ((length text ≡ 0) × Same) (λ c. text ≡ encode_utf8 c ++ later)
      → MatchOption first (chars text ≡ []) (λ c. chars text ≡ c ∷ chars (drop (len_utf8 c) text))
  first_char None u h = ap chars (nothing text h.0) ∙ chars-nil
  first_char (Some c) u h =
      chars_past_char text later c u h
      ∙ ap (λ s. c ∷ chars s)
      (sym (drop_past_char text later 0 c h) ∙ ap (λ n. drop n text) (zero-add (len_utf8 c)))

  pub first_boundary : (first : Option ℕ) → IsUtf8 text
      → MatchOption first ((length text ≡ 0) × Same) (λ c. text ≡ encode_utf8 c ++ later)
      → IfSome first (λ c. IsCharBoundary text (len_utf8 c))
  first_boundary None u h = tt
  first_boundary (Some c) u h =
      subst (IsCharBoundary text) (zero-add (len_utf8 c))
      (IsCharBoundary-past_char text later 0 c (omega arith) u h)

  pub no_char : (first : Option ℕ)
      → MatchOption first ((length text ≡ 0) × Same) (λ c. text ≡ encode_utf8 c ++ later)
      → IfNone first (text ≡ [])
  no_char None h = nothing text h.0
  no_char (Some c) h = tt

-- at the end of a text the place behind it is a span
pub end_span : (input : List ℕ) (position : ℕ) → IsCharBoundary input position → drop position input ≡ []
    → IsSpan input position 1
end_span input position between none =
    let left : length input - position ≡ 0 = sym (length-drop position input) ∙ ap length none in
    record {
      starts = between;
      ends = λ h. absurd (omega (arith, left, h));
      behind = λ e. omega arith;
    }

-- ---- the last character before a place

module _ (input front earlier : List ℕ) (position c : ℕ) where
  -- the text from that character on
  from_last : front ≡ take position input → front ≡ earlier ++ encode_utf8 c
      → input ≡ earlier ++ (encode_utf8 c ++ drop position input)
  from_last cut last =
      sym (take-append-drop position input) ∙ ap (λ text. text ++ drop position input) (sym cut ∙ last)
      ∙ append_assoc earlier (encode_utf8 c) (drop position input)

  earlier_len : front ≡ take position input → front ≡ earlier ++ encode_utf8 c → position ≤ length input
      → position - len_utf8 c ≡ length earlier
  earlier_len cut last within =
      let whole : length earlier + len_utf8 c ≡ position =
      (let parts = length-append earlier (encode_utf8 c) in
      omega (arith, parts, length-encode c, ap length last, ap length cut, length-take-le position input within)) in
      omega (arith, whole)

  pub before_boundary : front ≡ take position input → front ≡ earlier ++ encode_utf8 c → IsUtf8 input
      → IsCharBoundary input position → IsScalar c → IsCharBoundary input (position - len_utf8 c)
  before_boundary cut last u between scalar =
      subst (IsCharBoundary input) (sym (earlier_len cut last between.0))
      (IsCharBoundary-at_seam input earlier (encode_utf8 c ++ drop position input) (from_last cut last)
      (IsUtf8-append (encode_utf8 c) (drop position input) (IsUtf8-encode c scalar)
      (IsUtf8-drop input position u between)))

  pub before_rest : front ≡ take position input → front ≡ earlier ++ encode_utf8 c → position ≤ length input
      → drop (position - len_utf8 c) input ≡ encode_utf8 c ++ drop position input
  before_rest cut last within =
      ap (λ n. drop n input) (earlier_len cut last within)
      ∙ ap (drop (length earlier)) (from_last cut last)
      ∙ drop-append_seam earlier (encode_utf8 c ++ drop position input)
