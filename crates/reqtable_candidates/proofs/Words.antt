-- A text that is cut at its first white space.
use Rattle.std.proofs.Common.{◌≡◌, ℕ, ◌+◌, Bool, true, false, not, ◌&&◌, ◌||◌, cond, if◌then◌else◌, List, []}
use Rattle.std.proofs.Common.{◌∷◌, ◌++◌, length, take, drop, Some, None, refl, ap, sym, subst, ◌∙◌}
use Rattle.std.proofs.Common.{append_assoc, length-append, arith}
use Rattle.std.proofs.Math.Seq.{take-append_seam}
use Rattle.std.proofs.lemmas.List.{take-append-drop}
use Rattle.std.proofs.lemmas.List.Prefix.{front_rest}
use Rattle.std.proofs.lemmas.Str.{encodes-append, encodes-chars, encodes_same, chars_from_encodes}
use Rattle.std.proofs.lemmas.Str.{IsUtf8-drop}
use Rattle.std.specs.Char.{encode_utf8, is_whitespace}
use Rattle.std.specs.List.{list_any, prefix_len, position_or_len, before_first, after_first}
use Rattle.std.specs.Str.{chars, encode_utf8_all, IsUtf8, NonePass, trim_start}
use Rattle.std.specs.Str.Pattern.{FindsBy, SplitsAroundMatch}
use Rattle.reqtable_candidates.specs.CandidateLine.{name_text, version_text_of, parts_in}

pub some_same : {A : Type 0} (x y : A) → Some x ≡ Some y → x ≡ y
some_same x y h = cc

pub both_true : (a b : Bool) → (a && b) ≡ true → (a ≡ true) × (b ≡ true)
both_true true b h = (refl, h)
both_true false b h = absurd (cc)

none_any : (p : ℕ → Bool) (cs : List ℕ) → NonePass p cs → list_any p cs ≡ false
none_any p [] h = refl
none_any p (c ∷ cs) h = ap (λ b. b || list_any p cs) h.0 ∙ none_any p cs h.1

pub some_any : (p : ℕ → Bool) (cs : List ℕ) (c : ℕ) (ds : List ℕ) → NonePass p cs → p c ≡ true → list_any p (cs ++ c ∷ ds) ≡ true
some_any p [] c ds h t = ap (λ b. b || list_any p ds) t
some_any p (d ∷ cs) c ds h t = ap (λ b. b || list_any p (cs ++ c ∷ ds)) h.0 ∙ some_any p cs c ds h.1 t

pub first_place : (p : ℕ → Bool) (cs : List ℕ) (c : ℕ) (ds : List ℕ) → NonePass p cs → p c ≡ true → position_or_len p (cs ++ c ∷ ds) ≡ length cs
first_place p [] c ds h t = ap (λ b. cond (not b) (1 + prefix_len (λ x. not (p x)) ds) 0) t
first_place p (d ∷ cs) c ds h t =
    ap (λ b. cond (not b) (1 + prefix_len (λ x. not (p x)) (cs ++ c ∷ ds)) 0) h.0 ∙ (let e = first_place p cs c ds h.1 t in omega (arith, e))

pub before_place : (p : ℕ → Bool) (cs : List ℕ) (c : ℕ) (ds : List ℕ) → NonePass p cs → p c ≡ true → before_first p (cs ++ c ∷ ds) ≡ cs
before_place p cs c ds h t = ap (λ n. take n (cs ++ c ∷ ds)) (first_place p cs c ds h t) ∙ take-append_seam cs (c ∷ ds)

behind_first : (cs : List ℕ) (c : ℕ) (ds : List ℕ) → drop (length cs + 1) (cs ++ c ∷ ds) ≡ ds
behind_first cs c ds =
    ap (λ n. drop n (cs ++ c ∷ ds)) (sym (length-append cs (c ∷ []))) ∙ front_rest (cs ++ c ∷ ds) (cs ++ c ∷ []) ds (sym (append_assoc cs (c ∷ []) ds))

pub after_place : (p : ℕ → Bool) (cs : List ℕ) (c : ℕ) (ds : List ℕ) → NonePass p cs → p c ≡ true → after_first p (cs ++ c ∷ ds) ≡ ds
after_place p cs c ds h t = ap (λ n. drop (n + 1) (cs ++ c ∷ ds)) (first_place p cs c ds h t) ∙ behind_first cs c ds

-- a text in characters, around the first that is white space
record Around (text front back : List ℕ) : Type 0 where
  before : List ℕ
  white : ℕ
  later : List ℕ
  whole : chars text ≡ before ++ white ∷ later
  none : NonePass is_whitespace before
  is_white : is_whitespace white ≡ true
  front_is : encode_utf8_all before ≡ front
  back_is : encode_utf8_all later ≡ back

around : (text front back : List ℕ) → IsUtf8 text → SplitsAroundMatch (FindsBy is_whitespace) text front back → Around text front back
around text front back u h =
    let i = h.0 in
    let j = h.1 in
    let none = h.2.0 in
    let found = h.2.1 in
    let at = found.2 in
    let cut : IsUtf8 (drop j text) = let P : ℕ → Type 0 = λ n. IsUtf8 (drop n text) in subst P (sym at.ends) (IsUtf8-drop text _ u at.after) in
    let whole : encode_utf8_all (none.0 ++ found.0 ∷ chars (drop j text)) ≡ text =
    encodes-append none.0 (found.0 ∷ chars (drop j text))
    ∙ ap (λ bs. encode_utf8_all none.0 ++ (encode_utf8 found.0 ++ bs)) (encodes-chars (drop j text) cut)
    ∙ ap (λ bs. bs ++ (encode_utf8 found.0 ++ drop j text)) none.1
    ∙ ap (λ bs. take i text ++ bs) (sym at.split)
    ∙ take-append-drop i text in
    record {
      before = none.0;
      white = found.0;
      later = chars (drop j text);
      whole = sym (encodes_same (none.0 ++ found.0 ∷ chars (drop j text)) (chars text) (whole ∙ sym (encodes-chars text u)));
      none = none.2;
      is_white = found.1;
      front_is = none.1 ∙ sym h.3;
      back_is = encodes-chars (drop j text) cut ∙ sym h.4;
    }

pub no_parts : (text : List ℕ) → IsUtf8 text → FindsBy is_whitespace text None → None ≡ parts_in text
no_parts text u h =
    let t : list_any is_whitespace (chars text) ≡ false = ap (list_any is_whitespace) (sym (chars_from_encodes h.0 text u h.1)) ∙ none_any is_whitespace h.0 h.2 in
    ap (λ b. if b then Some (name_text text, version_text_of text) else None) (sym t)

pub has_parts : (text front back : List ℕ) → IsUtf8 text → SplitsAroundMatch (FindsBy is_whitespace) text front back → Some (front, trim_start back) ≡ parts_in text
has_parts text front back u h =
    let a = around text front back u h in
    let t : list_any is_whitespace (chars text) ≡ true =
    ap (list_any is_whitespace) a.whole ∙ some_any is_whitespace a.before a.white a.later a.none a.is_white in
    let name : name_text text ≡ front =
    ap (λ cs. encode_utf8_all (before_first is_whitespace cs)) a.whole ∙ ap encode_utf8_all (before_place is_whitespace a.before a.white a.later a.none a.is_white) ∙ a.front_is in
    let version : version_text_of text ≡ trim_start back =
    ap (λ cs. trim_start (encode_utf8_all (after_first is_whitespace cs))) a.whole
    ∙ ap (λ cs. trim_start (encode_utf8_all cs)) (after_place is_whitespace a.before a.white a.later a.none a.is_white) ∙ ap trim_start a.back_is in
    ap (λ n. Some (n, trim_start back)) (sym name) ∙ ap (λ v. Some (name_text text, v)) (sym version) ∙ ap (λ b. if b then Some (name_text text, version_text_of text) else None) (sym t)
