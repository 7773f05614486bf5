-- A text that is cut before the first character that passes a test.
use Rattle.std.proofs.Common.{◌≡◌, ℕ, ◌+◌, ◌<◌, ◌≤◌, Bool, true, false, not, ◌==◌, cond, if◌then◌else◌, List}
use Rattle.std.proofs.Common.{[], ◌∷◌, ◌++◌, length, take, drop, Some, None, Result, Ok, Err, refl, ap, sym}
use Rattle.std.proofs.Common.{◌∙◌, arith}
use Rattle.std.proofs.Math.Seq.{take-append_seam}
use Rattle.std.proofs.lemmas.Bool.Decides.{nat_tests}
use Rattle.std.proofs.lemmas.List.{take-append-drop, length-take-le}
use Rattle.std.proofs.lemmas.List.Prefix.{front_rest}
use Rattle.std.proofs.lemmas.Str.{encodes-chars, chars-append, chars-nil, chars_from_encodes}
use Rattle.std.proofs.lemmas.Str.{chars_past_char, length-le-encodes, IsUtf8-take, IsUtf8-drop}
use Rattle.std.specs.List.{prefix_len, position_or_len}
use Rattle.std.specs.Str.{chars, encode_utf8_all, IsUtf8, NonePass, trim_start, skip_leading_whitespace}
use Rattle.std.specs.Str.Pattern.{FindsBy, MatchBeginsAt}
use Rattle.pep440_specifier.specs.SpecifierReading.{cut_at, front_in, Reading, InvalidTrailing, ended}
use Rattle.pep440_specifier.specs.SpecifierReading.{built_before}
use Rattle.std.specs.Result.{result_ok}
use Rattle.pep440_specifier.specs.Matching.{SpecifierRecord}
use Rattle.pep440_specifier.specs.declared.build_error.VersionSpecifierBuildError.{VersionSpecifierBuildError}
use Rattle.pep440_operator.specs.declared.operator.OperatorParseError.TheVariants as operators
use Rattle.pep440_specifier.specs.declared.parse_error.VersionSpecifierParseError.{VersionSpecifierParseError}
use Rattle.pep440_specifier.specs.declared.parse_error.VersionSpecifierParseError.TheVariants as errors

-- the characters of a text behind the white space at its front
pub skipped : (text rest : List ℕ) → IsUtf8 rest → rest ≡ trim_start text → chars rest ≡ skip_leading_whitespace (chars text)
unfolding trim_start
skipped text rest u e = sym (chars_from_encodes (skip_leading_whitespace (chars text)) rest u (sym e))

none_place : (p : ℕ → Bool) (cs : List ℕ) → NonePass p cs → position_or_len p cs ≡ length cs
none_place p [] h = refl
none_place p (c ∷ cs) h =
    ap (λ b. cond (not b) (1 + prefix_len (λ x. not (p x)) cs) 0) h.0 ∙ (let e = none_place p cs h.1 in omega (arith, e))

pub first_place : (p : ℕ → Bool) (cs : List ℕ) (c : ℕ) (ds : List ℕ) → NonePass p cs → p c ≡ true → position_or_len p (cs ++ c ∷ ds) ≡ length cs
first_place p [] c ds h t = ap (λ b. cond (not b) (1 + prefix_len (λ x. not (p x)) ds) 0) t
first_place p (d ∷ cs) c ds h t =
    ap (λ b. cond (not b) (1 + prefix_len (λ x. not (p x)) (cs ++ c ∷ ds)) 0) h.0 ∙ (let e = first_place p cs c ds h.1 t in omega (arith, e))

-- a front is empty in bytes where it is in characters
same_empty : (cs bs : List ℕ) → encode_utf8_all cs ≡ bs → (length bs == 0) ≡ (length cs == 0)
same_empty [] bs e = ap (λ (b : List ℕ). length b == 0) (sym e)
same_empty (c ∷ cs) bs e =
    let a : length (c ∷ cs) ≤ length (encode_utf8_all (c ∷ cs)) = length-le-encodes (c ∷ cs) in
    let n : length (encode_utf8_all (c ∷ cs)) ≡ length bs = ap length e in
    grind (arith, nat_tests)

-- a place in bytes is the one in characters
same_cut : (p : ℕ → Bool) (text : List ℕ) (end : ℕ) (cs : List ℕ) → encode_utf8_all cs ≡ take end text → (end == 0) ≡ (length cs == 0)
    → position_or_len p (chars text) ≡ length cs → take (length cs) (chars text) ≡ cs → drop (length cs) (chars text) ≡ chars (drop end text) → cut_at text end ≡ front_in p (chars text)
same_cut p text end cs front empty place before after =
    ap (λ b. if b then None else Some (take end text, chars (drop end text))) empty
    ∙ ap (λ bs. if length cs == 0 then None else Some (bs, chars (drop end text))) (sym front ∙ ap encode_utf8_all (sym before))
    ∙ ap (λ ds. if length cs == 0 then None else Some (encode_utf8_all (take (length cs) (chars text)), ds)) (sym after)
    ∙ ap (λ n. if n == 0 then None else Some (encode_utf8_all (take n (chars text)), drop n (chars text))) (sym place)

whole_take : (xs : List ℕ) → take (length xs) xs ≡ xs
whole_take [] = refl
whole_take (x ∷ xs) = ap (λ ys. x ∷ ys) (whole_take xs)

whole_drop : (xs : List ℕ) → drop (length xs) xs ≡ []
whole_drop [] = refl
whole_drop (x ∷ xs) = whole_drop xs

-- no character passes
pub cut_none : (p : ℕ → Bool) (text : List ℕ) → IsUtf8 text → FindsBy p text None → cut_at text (length text) ≡ front_in p (chars text)
cut_none p text u h =
    let cs : List ℕ = h.0 in
    let same : cs ≡ chars text = chars_from_encodes cs text u h.1 in
    same_cut p text (length text) cs (h.1 ∙ sym (whole_take text)) (same_empty cs text h.1)
    (ap (position_or_len p) (sym same) ∙ none_place p cs h.2) (ap (take (length cs)) (sym same) ∙ whole_take cs)
    (ap (drop (length cs)) (sym same) ∙ whole_drop cs ∙ sym chars-nil ∙ ap chars (sym (whole_drop text)))

-- a character passes
pub cut_some : (p : ℕ → Bool) (text : List ℕ) (end : ℕ) → IsUtf8 text → MatchBeginsAt (FindsBy p) text end → cut_at text end ≡ front_in p (chars text)
cut_some p text end u h =
    let none = h.1.0 in
    let found = h.1.1 in
    let cs : List ℕ = none.0 in
    let c : ℕ = found.0 in
    let ds : List ℕ = chars (drop h.0 text) in
    let rest : chars (drop end text) ≡ c ∷ ds = chars_past_char (drop end text) (drop h.0 text) c (IsUtf8-drop text end u h.3) found.2.split in
    let front : IsUtf8 (take end text) = IsUtf8-take text end u h.3 in
    let before : chars (take end text) ≡ cs = sym (chars_from_encodes cs (take end text) front none.1) in
    let whole : chars text ≡ cs ++ c ∷ ds =
    ap chars (sym (take-append-drop end text)) ∙ chars-append (take end text) (drop end text) front ∙ ap (λ xs. xs ++ chars (drop end text)) before ∙ ap (λ xs. cs ++ xs) rest in
    let len : length (take end text) ≡ end = length-take-le end text h.3.0 in
    same_cut p text end cs none.1 (ap (λ n. n == 0) (sym len) ∙ same_empty cs (take end text) none.1)
    (ap (position_or_len p) whole ∙ first_place p cs c ds none.2 found.1) (ap (take (length cs)) whole ∙ take-append_seam cs (c ∷ ds))
    (ap (drop (length cs)) whole ∙ front_rest (cs ++ c ∷ ds) cs (c ∷ ds) refl ∙ sym rest)

nonempty : (cs : List ℕ) → 0 < length (encode_utf8_all cs) → 0 < length cs
nonempty [] h = absurd (omega arith)
nonempty (c ∷ cs) h = omega arith

-- characters that are left are trailing
trailing_by : (cs : List ℕ) (specifier : SpecifierRecord) → 0 < length cs
    → ended cs specifier ≡ Err (InvalidTrailing (encode_utf8_all cs))
trailing_by [] specifier h = absurd (omega arith)
trailing_by (c ∷ cs) specifier h = refl

left_over : (text : List ℕ) (specifier : SpecifierRecord) → IsUtf8 text → 0 < length text
    → ended (chars text) specifier ≡ Err (InvalidTrailing text)
left_over text specifier u h =
    let same : encode_utf8_all (chars text) ≡ text = encodes-chars text u in
    let e : length (encode_utf8_all (chars text)) ≡ length text = ap length same in
    trailing_by (chars text) specifier (nonempty (chars text) (omega (arith, e)))
    ∙ ap (λ bs. Err (InvalidTrailing bs)) same

empty_is : (bs : List ℕ) → true ≡ (length bs == 0) → bs ≡ []
empty_is [] h = refl
empty_is (b ∷ bs) h = absurd (let n : 0 < length (b ∷ bs) = omega arith in grind (arith, nat_tests))

more_than_none : (bs : List ℕ) → false ≡ (length bs == 0) → 0 < length bs
more_than_none [] h = absurd (cc)
more_than_none (b ∷ bs) h = omega arith

-- what is left behind a pattern that makes a specifier
pub left_behind : (left rest : List ℕ) (made : Result SpecifierRecord VersionSpecifierBuildError)
    (specifier : SpecifierRecord) → made ≡ Ok specifier → IsUtf8 rest
    → chars rest ≡ skip_leading_whitespace (chars left) → false ≡ (length rest == 0)
    → built_before (chars left) made ≡ Err (InvalidTrailing rest)
left_behind left rest made specifier e u s h =
    ap (built_before (chars left)) e ∙ ap (λ cs. ended cs specifier) (sym s)
    ∙ left_over rest specifier u (more_than_none rest h)

pub none_behind : (left rest : List ℕ) (made : Result SpecifierRecord VersionSpecifierBuildError)
    (specifier : SpecifierRecord) → made ≡ Ok specifier
    → chars rest ≡ skip_leading_whitespace (chars left) → true ≡ (length rest == 0)
    → built_before (chars left) made ≡ Ok specifier
none_behind left rest made specifier e s h =
    ap (built_before (chars left)) e
    ∙ ap (λ cs. ended cs specifier) (sym s ∙ ap chars (empty_is rest h) ∙ chars-nil)
