-- Texts that are cut before the first character that passes a test.
use Rattle.std.proofs.Common.{◌≡◌, ℕ, ◌+◌, Bool, true, false, List, [], ◌∷◌, ◌++◌, length, take, drop, eqb}
use Rattle.std.proofs.Common.{nat_lt}
use Rattle.std.proofs.Common.{if◌then◌else◌, ◌<◌, ◌≤◌, Option, Some, None, refl, ap, sym, ◌∙◌, arith}
use Rattle.std.proofs.Math.Seq.{take-append_seam, drop-append_seam}
use Rattle.std.proofs.lemmas.List.{take-append-drop, append-nil, append_cancel_left, length-drop, drop-drop}
use Rattle.std.proofs.lemmas.Bool.Decides.{nat_tests}
use Rattle.std.proofs.lemmas.Str.{chars-append, chars-nil, chars_from_encodes, chars_past_char, IsUtf8-take}
use Rattle.std.proofs.lemmas.Str.{IsUtf8-drop}
use Rattle.std.specs.List.{position_or_len, before_first, after_first}
use Rattle.std.specs.Str.{chars, encode_utf8_all, IsUtf8, NonePass}
use Rattle.std.specs.Str.Pattern.{FindsBy, MatchBeginsAt}
use Rattle.pep508_error.specs.Cuts.{encoded_cut, cut_around}
use Rattle.pep508_error.proofs.Cuts.{NonePasses, Ends, encoded_again}

none_passes : (test : ℕ → Bool) (cs : List ℕ) → NonePass test cs → NonePasses test cs
none_passes test [] h = tt
none_passes test (c ∷ cs) h = (h.0, none_passes test cs h.1)

-- a text whose characters are these and those, cut between them
cut_is : (test : ℕ → Bool) (text front rest cs ds : List ℕ) → chars text ≡ cs ++ ds → NonePass test cs
    → Ends test ds → encode_utf8_all cs ≡ front → chars rest ≡ ds
    → (front, chars rest) ≡ encoded_cut test (chars text)
cut_is test text front rest cs ds whole none ends before behind =
    ap (λ (x : List ℕ). (x, chars rest)) (sym before)
    ∙ ap (λ (x : List ℕ). (encode_utf8_all cs, x)) behind
    ∙ sym (encoded_again test cs ds (none_passes test cs none) ends)
    ∙ ap (encoded_cut test) (sym whole)

-- no character passes
pub cut_none : (test : ℕ → Bool) (text : List ℕ) → IsUtf8 text → FindsBy test text None
    → (text, chars []) ≡ encoded_cut test (chars text)
cut_none test text u h =
    let cs : List ℕ = h.0 in
    let same : chars text ≡ cs = sym (chars_from_encodes cs text u h.1) in
    cut_is test text text [] cs [] (same ∙ sym (append-nil cs)) h.2 tt h.1 chars-nil

-- a character passes
pub cut_some : (test : ℕ → Bool) (text front rest : List ℕ) (end : ℕ) → IsUtf8 text
    → MatchBeginsAt (FindsBy test) text end → front ≡ take end text → rest ≡ drop end text
    → (front, chars rest) ≡ encoded_cut test (chars text)
cut_some test text front rest end u h f r =
    let none = h.1.0 in
    let found = h.1.1 in
    let cs : List ℕ = none.0 in
    let c : ℕ = found.0 in
    let ds : List ℕ = chars (drop h.0 text) in
    let at_rest : chars (drop end text) ≡ c ∷ ds =
    chars_past_char (drop end text) (drop h.0 text) c (IsUtf8-drop text end u h.3) found.2.split in
    let front_utf8 : IsUtf8 (take end text) = IsUtf8-take text end u h.3 in
    let before : chars (take end text) ≡ cs = sym (chars_from_encodes cs (take end text) front_utf8 none.1) in
    let whole : chars text ≡ cs ++ c ∷ ds =
    ap chars (sym (take-append-drop end text)) ∙ chars-append (take end text) (drop end text) front_utf8
    ∙ ap (λ xs. xs ++ chars (drop end text)) before ∙ ap (λ xs. cs ++ xs) at_rest in
    cut_is test text front rest cs (c ∷ ds) whole none.2 found.1 (none.1 ∙ sym f) (ap chars r ∙ at_rest)

-- ---- at a place

pub placed : (test : ℕ → Bool) (here text front rest later : List ℕ) → text ≡ here → text ≡ front ++ rest
    → here ≡ front ++ later → (front, chars rest) ≡ encoded_cut test (chars text)
    → (front, chars later) ≡ encoded_cut test (chars here)
placed test here text front rest later e whole at cut =
    let same : later ≡ rest = append_cancel_left front later rest (sym at ∙ sym e ∙ whole) in
    ap (λ (xs : List ℕ). (front, chars xs)) same ∙ cut ∙ ap (λ (xs : List ℕ). encoded_cut test (chars xs)) e

below : (a b : ℕ) → a < b → nat_lt a b ≡ true
below a b h = grind (arith, nat_tests)

not_below : (a b : ℕ) → b ≤ a → nat_lt a b ≡ false
not_below a b h = grind (arith, nat_tests)

abbrev chosen : ℕ → List ℕ → Bool → Option (List ℕ × List ℕ)
chosen c cs found =
    if found then Some (encode_utf8_all (before_first (λ d. eqb d c) cs), after_first (λ d. eqb d c) cs) else None

-- the character stands behind the cut
pub around_some : (c x : ℕ) (cs front rest ds : List ℕ) → (front, rest) ≡ encoded_cut (λ d. eqb d c) cs → rest ≡ x ∷ ds
    → Some (front, ds) ≡ cut_around c cs
around_some c x cs front rest ds cut e =
    let n : ℕ = position_or_len (λ d. eqb d c) cs in
    let one : front ≡ encode_utf8_all (before_first (λ d. eqb d c) cs) = ap (λ (q : List ℕ × List ℕ). q.0) cut in
    let two : drop n cs ≡ x ∷ ds = sym (ap (λ (q : List ℕ × List ℕ). q.1) cut) ∙ e in
    let l : length (drop n cs) ≡ length (x ∷ ds) = ap length two in
    let m = length-drop n cs in
    let inside : n < length cs = omega (arith, l, m) in
    let three : ds ≡ after_first (λ d. eqb d c) cs = sym (ap (drop 1) two) ∙ drop-drop 1 n cs in
    ap (λ (xs : List ℕ). Some (xs, ds)) one
    ∙ ap (λ (xs : List ℕ). Some (encode_utf8_all (before_first (λ d. eqb d c) cs), xs)) three
    ∙ sym (ap (chosen c cs) (below n (length cs) inside))

-- nothing does
pub around_none : (c : ℕ) (cs front rest : List ℕ) → (front, rest) ≡ encoded_cut (λ d. eqb d c) cs → rest ≡ []
    → None ≡ cut_around c cs
around_none c cs front rest cut e =
    let n : ℕ = position_or_len (λ d. eqb d c) cs in
    let two : drop n cs ≡ [] = sym (ap (λ (q : List ℕ × List ℕ). q.1) cut) ∙ e in
    let l : length (drop n cs) ≡ 0 = ap length two in
    let m = length-drop n cs in
    let past : length cs ≤ n = omega (arith, l, m) in
    sym (ap (chosen c cs) (not_below n (length cs) past))
