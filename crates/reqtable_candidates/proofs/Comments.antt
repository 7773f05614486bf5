-- Lines without their ends and comments.
use Rattle.std.proofs.Common.{suc, subst, drop-cons, ◌≡◌, ℕ, ◌+◌, ◌-◌, ◌<◌, ◌==◌, ◌&&◌, ◌≢◌, Bool, true}
use Rattle.std.proofs.Common.{false, cond, if◌then◌else◌, List, [], ◌∷◌, ◌++◌, length, get_or, take, drop}
use Rattle.std.proofs.Common.{not, map, Option, Some, None, refl, ap, sym, ◌∙◌, append_assoc, length-append}
use Rattle.std.proofs.Common.{arith}
use Rattle.std.proofs.lemmas.Grind.{common_steps}
use Rattle.std.proofs.lemmas.Bool.Decides.{nat_tests}
use Rattle.std.proofs.lemmas.List.{append-nil, take-append-drop, drop_all}
use Rattle.std.proofs.Math.Seq.{get_or-append_seam, take-append_seam}
use Rattle.std.proofs.lemmas.Str.{chars-nil, chars_past_char, chars_from_encodes, IsUtf8-past_char}
use Rattle.std.proofs.lemmas.Str.{IsCharBoundary-at_seam, length-encode, len_utf8_bounds}
use Rattle.std.proofs.lemmas.Str.Pattern.{strip_suffix_char}
use Rattle.std.specs.Borrow.{Bor}
use Rattle.std.specs.Char.{encode_utf8, is_whitespace}
use Rattle.std.specs.List.{list_all, position_or_len, zip}
use Rattle.std.specs.Option.{MatchOption, unwrap_or, option_map_or}
use Rattle.std.specs.Str.{chars, encode_utf8_all, IsUtf8, IsCharBoundary, NonePass, skip_leading_whitespace}
use Rattle.std.specs.Str.{trim_start}
use Rattle.std.specs.Str.Lines.{strip_carriage_return}
use Rattle.std.specs.Str.Pattern.{FindsCharSuffix, StripsSuffix}
use Rattle.reqtable_candidates.specs.TextLines.{begins_comment, without_comment, is_blank}

-- the characters before a comment, where the truth says whether a `#` here begins one
abbrev pub scanned : Bool → List ℕ → List ℕ
scanned begins [] = []
scanned begins (c ∷ cs) = if begins && c == 35 then [] else c ∷ scanned (is_whitespace c) cs

-- the place of the first that begins a comment, behind another character
abbrev comment_at : Option ℕ → List ℕ → ℕ
comment_at before cs = position_or_len begins_comment (zip (before ∷ map Some cs) cs)

scanned_by : (t : Bool) (c : ℕ) (cs : List ℕ) (n : ℕ) → scanned (is_whitespace c) cs ≡ take n cs
    → (if t then [] else c ∷ scanned (is_whitespace c) cs) ≡ take (cond (not t) (1 + n) 0) (c ∷ cs)
scanned_by true c cs n e = refl
scanned_by false c cs n e =
    let next : suc n ≡ 1 + n = omega arith in
    ap (λ ds. c ∷ ds) e ∙ ap (λ k. take k (c ∷ cs)) next

scanned_is : (before : Option ℕ) (cs : List ℕ)
    → scanned (option_map_or is_whitespace before true) cs ≡ take (comment_at before cs) cs
scanned_is before [] = refl
scanned_is before (c ∷ cs) = scanned_by (begins_comment (before, c)) c cs (comment_at (Some c) cs) (scanned_is (Some c) cs)

whole_scanned : (line : List ℕ) → encode_utf8_all (scanned true (chars line)) ≡ without_comment line
unfolding without_comment
whole_scanned line = ap encode_utf8_all (scanned_is None (chars line))

-- a scan for a comment that has come to an offset, with the rest still to come
pub record Scan (line : List ℕ) (begins : Bool) (offset : ℕ) (rest : List ℕ) : Type 0 where
  front : List ℕ
  split : line ≡ front ++ rest
  long : length front ≡ offset
  is_text : IsUtf8 rest
  whole : front ++ encode_utf8_all (scanned begins (chars rest)) ≡ without_comment line

pub scan_none : (line rest : List ℕ) → IsUtf8 line → rest ≡ line → Scan line true 0 rest
scan_none line rest u e = record {
  front = [];
  split = sym e;
  long = refl;
  is_text = rw e u;
  whole = ap (λ bs. encode_utf8_all (scanned true (chars bs))) e ∙ whole_scanned line;
}

goes_on : (begins : Bool) (c : ℕ) (cs : List ℕ) → (begins && c == 35) ≡ false → scanned begins (c ∷ cs) ≡ c ∷ scanned (is_whitespace c) cs
goes_on begins c cs h = ap (λ b. if b then [] else c ∷ scanned (is_whitespace c) cs) h

pub scan_more : (line rest later : List ℕ) (begins : Bool) (offset c : ℕ) → Scan line begins offset rest → rest ≡ encode_utf8 c ++ later → (begins && c == 35) ≡ false
    → Scan line (is_whitespace c) (offset + length (encode_utf8 c)) later
scan_more line rest later begins offset c s e h =
    let e1 : chars rest ≡ c ∷ chars later = chars_past_char rest later c s.is_text e in
    let e2 : scanned begins (chars rest) ≡ c ∷ scanned (is_whitespace c) (chars later) = ap (scanned begins) e1 ∙ goes_on begins c (chars later) h in
    record {
      front = s.front ++ encode_utf8 c;
      split = s.split ∙ ap (λ bs. s.front ++ bs) e ∙ sym (append_assoc s.front (encode_utf8 c) later);
      long = length-append s.front (encode_utf8 c) ∙ ap (λ n. n + length (encode_utf8 c)) s.long;
      is_text = IsUtf8-past_char rest later c s.is_text e;
      whole = append_assoc s.front (encode_utf8 c) (encode_utf8_all (scanned (is_whitespace c) (chars later)))
          ∙ ap (λ cs. s.front ++ encode_utf8_all cs) (sym e2) ∙ s.whole;
    }

pub scan_cut : (line rest : List ℕ) (begins : Bool) (offset : ℕ) → Scan line begins offset rest → IsCharBoundary line offset
scan_cut line rest begins offset s = let P : ℕ → Type 0 = λ n. IsCharBoundary line n in subst P s.long (IsCharBoundary-at_seam line s.front rest s.split s.is_text)

pub scan_stop : (line rest later : List ℕ) (begins : Bool) (offset c : ℕ) → Scan line begins offset rest → rest ≡ encode_utf8 c ++ later → (begins && c == 35) ≡ true → take offset line ≡ without_comment line
scan_stop line rest later begins offset c s e h =
    let e1 : chars rest ≡ c ∷ chars later = chars_past_char rest later c s.is_text e in
    let e2 : scanned begins (chars rest) ≡ [] = ap (scanned begins) e1 ∙ ap (λ b. if b then [] else c ∷ scanned (is_whitespace c) (chars later)) h in
    let e3 : s.front ++ [] ≡ without_comment line = ap (λ cs. s.front ++ encode_utf8_all cs) (sym e2) ∙ s.whole in
    let e4 : take (length s.front) (s.front ++ rest) ≡ s.front = grind (arith, common_steps) in
    ap (λ n. take n line) (sym s.long) ∙ ap (take (length s.front)) s.split ∙ e4 ∙ sym (append-nil s.front) ∙ e3

pub scan_end : (line rest : List ℕ) (begins : Bool) (offset : ℕ) → Scan line begins offset rest → length rest ≡ 0 → line ≡ without_comment line
scan_end line [] begins offset s h = s.split ∙ ap (λ cs. s.front ++ encode_utf8_all (scanned begins cs)) (sym chars-nil) ∙ s.whole
scan_end line (b ∷ bs) begins offset s h = absurd (omega arith)

-- without the character there is no comment
keeps_all : (begins : Bool) (cs : List ℕ) → NonePass (λ c. c == 35) cs → scanned begins cs ≡ cs
keeps_all begins [] h = refl
keeps_all true (c ∷ cs) h = goes_on true c cs h.0 ∙ ap (λ ds. c ∷ ds) (keeps_all (is_whitespace c) cs h.1)
keeps_all false (c ∷ cs) h = ap (λ ds. c ∷ ds) (keeps_all (is_whitespace c) cs h.1)

pub no_comment : (line cs : List ℕ) → IsUtf8 line → encode_utf8_all cs ≡ line → NonePass (λ c. c == 35) cs
    → line ≡ without_comment line
no_comment line cs u e h =
    let k : cs ≡ chars line = chars_from_encodes cs line u e in
    sym (ap (λ ds. encode_utf8_all (scanned true ds)) (sym k) ∙ ap encode_utf8_all (keeps_all true cs h) ∙ e)
    ∙ whole_scanned line

-- blank is what trims to nothing
empty_by : (c : ℕ) (bs : List ℕ) → (length (encode_utf8 c ++ bs) == 0) ≡ false
empty_by c bs =
    let n : 0 < length (encode_utf8 c ++ bs) = omega (arith, length-append (encode_utf8 c) bs, length-encode c, (len_utf8_bounds c).0) in
    grind (arith, nat_tests)

blank_by : (c : ℕ) (cs : List ℕ) (white : Bool) → (length (encode_utf8_all (skip_leading_whitespace cs)) == 0) ≡ list_all is_whitespace cs
    → (length (encode_utf8_all (cond white (skip_leading_whitespace cs) (c ∷ cs))) == 0) ≡ (white && list_all is_whitespace cs)
blank_by c cs true e = e
blank_by c cs false e = empty_by c (encode_utf8_all cs)

blank_is : (cs : List ℕ) → (length (encode_utf8_all (skip_leading_whitespace cs)) == 0) ≡ list_all is_whitespace cs
blank_is [] = refl
blank_is (c ∷ cs) = blank_by c cs (is_whitespace c) (blank_is cs)

pub trimmed_is_blank : (line : List ℕ) → (length (trim_start line) == 0) ≡ is_blank line
unfolding is_blank trim_start
trimmed_is_blank line = blank_is (chars line)

-- a last carriage return, where there is one
last_of : (bs : List ℕ) → get_or bs (length bs - 1) 0 ≡ 13 → bs ≡ take (length bs - 1) bs ++ (13 ∷ [])
last_of [] h = absurd (omega (arith, h))
last_of (b ∷ bs) h =
    let n : length (b ∷ bs) - 1 < length (b ∷ bs) = omega arith in
    let d : drop (length (b ∷ bs) - 1) (b ∷ bs) ≡ get_or (b ∷ bs) (length (b ∷ bs) - 1) 0 ∷ drop (suc (length (b ∷ bs) - 1)) (b ∷ bs) = drop-cons (b ∷ bs) (length (b ∷ bs) - 1) 0 n in
    let none : drop (suc (length (b ∷ bs) - 1)) (b ∷ bs) ≡ [] = drop_all (suc (length (b ∷ bs) - 1)) (b ∷ bs) (omega arith) in
    sym (take-append-drop (length (b ∷ bs) - 1) (b ∷ bs)) ∙ ap (λ ds. take (length (b ∷ bs) - 1) (b ∷ bs) ++ ds) (d ∙ ap (λ x. x ∷ drop (suc (length (b ∷ bs) - 1)) (b ∷ bs)) h ∙ ap (λ ds. 13 ∷ ds) none)

strip_by : (bs : List ℕ) (t : Bool) → (get_or bs (length bs - 1) 0 == 13) ≡ t → strip_carriage_return bs ≡ (if t then take (length bs - 1) bs else bs)
strip_by bs t e = ap (λ b. if b then take (length bs - 1) bs else bs) e

strip_no : (bs : List ℕ) → ((front : List ℕ) → bs ≢ front ++ (13 ∷ [])) → bs ≡ strip_carriage_return bs
strip_no bs h =
    let ne : get_or bs (length bs - 1) 0 ≢ 13 = λ e. h (take (length bs - 1) bs) (last_of bs e) in
    let t : (get_or bs (length bs - 1) 0 == 13) ≡ false = grind (arith, nat_tests) in
    sym (strip_by bs false t)

strip_yes : (bs front : List ℕ) → bs ≡ front ++ (13 ∷ []) → front ≡ strip_carriage_return bs
strip_yes bs front e =
    let n : length bs ≡ length front + 1 = ap length e ∙ length-append front (13 ∷ []) in
    let m : length bs - 1 ≡ length front = omega arith in
    let g : get_or bs (length bs - 1) 0 ≡ 13 = ap (λ k. get_or bs k 0) m ∙ ap (λ xs. get_or xs (length front) 0) e ∙ get_or-append_seam front 13 [] 0 in
    let t : (get_or bs (length bs - 1) 0 == 13) ≡ true = grind (arith, nat_tests) in
    let k : take (length bs - 1) bs ≡ front = ap (λ k. take k bs) m ∙ ap (take (length front)) e ∙ take-append_seam front (13 ∷ []) in
    sym (strip_by bs true t ∙ k)

-- `strip_suffix` at a carriage return
pub stripped_is : (bs : List ℕ) (r : Option (Bor (List ℕ))) (line : Bor (List ℕ)) → MatchOption r (FindsCharSuffix 13 bs None) (λ x. StripsSuffix (FindsCharSuffix 13) bs x.now) → line.now ≡ bs
    → (unwrap_or r line).now ≡ strip_carriage_return bs
stripped_is bs None line h e = e ∙ strip_no bs (strip_suffix_char 13 bs None h (omega arith))
stripped_is bs (Some x) line h e = strip_yes bs x.now (strip_suffix_char 13 bs (Some x) h (omega arith))
