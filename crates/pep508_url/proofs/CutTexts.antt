-- Cuts of a text, by the words of std.
use Rattle.std.proofs.Common.{◌≡◌, ℕ, ◌-◌, ◌<◌, nat_lt, Bool, true, false, if◌then◌else◌, eqb, List, length}
use Rattle.std.proofs.Common.{take, drop, Option, Some, None, option_map, option_copied, ap, sym, subst, ◌∙◌}
use Rattle.std.proofs.Common.{arith}
use Rattle.std.specs.Prelude.{MatchOption, IsUtf8, IsCharBoundary, slice_range}
use Rattle.std.specs.Borrow.{Bor}
use Rattle.std.specs.List.{starts_with, position_or_len, before_first, after_first, prefix_len}
use Rattle.std.specs.Str.Pattern.{FindsTextPrefix, StripsPrefix}
use Rattle.std.proofs.lemmas.Bool.Decides.{nat_tests}
use Rattle.std.proofs.lemmas.List.Sums.{prefix_len_passes, prefix_len-le-length}
use Rattle.std.proofs.lemmas.Str.{IsCharBoundary-after_ascii}
use Rattle.std.proofs.lemmas.Str.Pattern.{starts_text}
use Rattle.url.specs.Input.{is_c0_control_or_space}
use Rattle.pep508_url.specs.Cuts.{behind, cut}

behind_by : (word text : List ℕ) (starts : Bool) → starts ≡ starts_with eqb text word
    → (if starts then Some (drop (length word) text) else None) ≡ behind word text
unfolding behind
behind_by word text starts e = ap (λ b. if b then Some (drop (length word) text) else None) e

-- `strip_prefix` at a word
pub behind_is : (word text : List ℕ) (r : Option (Bor (List ℕ)))
    → MatchOption r (FindsTextPrefix word text None) (λ x. StripsPrefix (FindsTextPrefix word) text x.now)
    → option_copied r ≡ behind word text
behind_is word text None h = behind_by word text false (starts_text false word text h)
behind_is word text (Some x) h =
    let w : h.0 ≡ length word = h.1.0 in
    let cut : IsCharBoundary text h.0 = rw w h.1.2 in
    let e : x.now ≡ drop (length word) text = h.2 ∙ ap (λ n. drop n text) w in
    ap Some e ∙ behind_by word text true (starts_text true word text (h.0, h.1, cut))

below : (a b : ℕ) → a < b → nat_lt a b ≡ true
below a b h = grind (arith, nat_tests)

not_below : (a b : ℕ) → a ≡ b → nat_lt a b ≡ false
not_below a b h = grind (arith, nat_tests)

-- what a cut gives, by whether the byte is there
abbrev pub chosen : ℕ → List ℕ → Bool → Option (List ℕ × List ℕ)
chosen byte text found =
    if found then Some (before_first (λ b. eqb b byte) text, after_first (λ b. eqb b byte) text) else None

pub cut_by : (byte : ℕ) (text : List ℕ) (found : Bool)
    → nat_lt (position_or_len (λ b. eqb b byte) text) (length text) ≡ found → cut byte text ≡ chosen byte text found
unfolding cut
cut_by byte text found e = ap (chosen byte text) e

-- `split_once` at an ASCII character
pub cut_is : (byte : ℕ) (text : List ℕ) (r : Option (Bor (List ℕ) × Bor (List ℕ)))
    → MatchOption r (position_or_len (λ b. eqb b byte) text ≡ length text)
    (λ x. (x.0.now ≡ before_first (λ b. eqb b byte) text) × (x.1.now ≡ after_first (λ b. eqb b byte) text)
    × (position_or_len (λ b. eqb b byte) text < length text))
    → option_map (λ parts. (parts.0.now, parts.1.now)) r ≡ cut byte text
cut_is byte text None h = sym (cut_by byte text false (not_below _ _ h))
cut_is byte text (Some x) h =
    ap (λ front. Some (front, x.1.now)) h.0 ∙ ap (λ rest. Some (before_first (λ b. eqb b byte) text, rest)) h.1
    ∙ sym (cut_by byte text true (below _ _ h.2))

small : (b : ℕ) → is_c0_control_or_space b ≡ true → b < 128
small b h = grind (arith, nat_tests)

-- a text may be cut behind the controls and blanks at its front
pub behind_controls : (text : List ℕ) (n : ℕ) → IsUtf8 text → n ≡ prefix_len is_c0_control_or_space text → 0 < n
    → IsCharBoundary text n
behind_controls text n u e some =
    let le = prefix_len-le-length is_c0_control_or_space text in
    let last = small _ (prefix_len_passes is_c0_control_or_space text (n - 1) 0 (omega (arith, e))) in
    let P : ℕ → Type 0 = λ k. IsCharBoundary text k in
    subst P (omega arith) (IsCharBoundary-after_ascii text (n - 1) u (omega (arith, e, le)) last)

whole_length : (n : ℕ) → n - 0 ≡ n
whole_length n = omega arith

-- a text without so many bytes at its end
pub end_cut : (text same : List ℕ) (count known : ℕ) → text ≡ same → count ≡ known
    → slice_range text 0 (length text - count) ≡ take (length same - known) same
end_cut text same count known e f =
    ap (λ n. take n text) (whole_length (length text - count)) ∙ ap (λ x. take (length x - count) x) e
    ∙ ap (λ n. take (length same - n) same) f
