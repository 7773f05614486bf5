-- Each line of a text is one line and has no comment.
use Rattle.std.proofs.Common.{◌≡◌, ◌∙◌, ℕ, zero, suc, ◌+◌, ◌-◌, ◌<◌, ◌≤◌, ◌==◌, ◌&&◌, Bool, true, false, not}
use Rattle.std.proofs.Common.{cond, if◌then◌else◌, nat_lt, List, [], ◌∷◌, ◌++◌, length, take, drop, get_or}
use Rattle.std.proofs.Common.{map, Option, Some, None, refl, ap, sym, subst, arith}
use Rattle.std.proofs.lemmas.Bool.{or_parts, or_from}
use Rattle.std.proofs.lemmas.Bool.Decides.{nat_tests}
use Rattle.std.proofs.lemmas.List.{take-append-drop, length-drop}
use Rattle.std.proofs.lemmas.List.Splits.{slice_split_first}
use Rattle.std.proofs.lemmas.List.Sums.{passes_at_first}
use Rattle.std.proofs.lemmas.Str.{IsUtf8-nil, IsUtf8-take, IsUtf8-drop, IsCharBoundary-after_ascii}
use Rattle.std.proofs.lemmas.Str.{chars-encodes, encodes-append, encodes-chars, scalars-chars}
use Rattle.std.specs.Char.{is_whitespace}
use Rattle.std.specs.List.{AllByRecursion, filter, slice_split, onto_first, enumerate_from, position_or_len}
use Rattle.std.specs.List.{zip}
use Rattle.std.specs.Option.{option_map_or}
use Rattle.std.specs.Str.{chars, all_scalars, encode_utf8_all, IsUtf8, IsCharBoundary}
use Rattle.std.specs.Str.Lines.{strip_carriage_return}
use Rattle.reqtable_candidates.specs.TextLines.{begins_comment, without_comment, is_blank, text_lines}
use Rattle.reqtable_candidates.proofs.CandidateParts.{scalars_before}
use Rattle.pep508_reading_back.specs.Lines.{has_comment, IsLine}

-- ---- comments

-- the place of the first that begins one
abbrev comment_at : Option ℕ → List ℕ → ℕ
comment_at before cs = position_or_len begins_comment (zip (before ∷ map Some cs) cs)

-- whether one may begin behind this
abbrev blank_before : Option ℕ → Bool
blank_before before = option_map_or is_whitespace before true

cut_by : (t : Bool) (c : ℕ) (cs : List ℕ) (n : ℕ) (blank : Bool) → (blank && c == 35) ≡ t →
    has_comment (is_whitespace c) (take n cs) ≡ false →
    has_comment blank (take (cond (not t) (1 + n) 0) (c ∷ cs)) ≡ false
cut_by true c cs n blank e h = refl
cut_by false c cs n blank e h =
    let next : suc n ≡ 1 + n = omega arith in
    ap (λ k. has_comment blank (take k (c ∷ cs))) (sym next)
    ∙ or_from (blank && c == 35) (has_comment (is_whitespace c) (take n cs)) e h

cut_off : (before : Option ℕ) (cs : List ℕ) →
    has_comment (blank_before before) (take (comment_at before cs) cs) ≡ false
cut_off before [] = refl
cut_off before (c ∷ cs) =
    cut_by (begins_comment (before, c)) c cs (comment_at (Some c) cs) (blank_before before) refl
    (cut_off (Some c) cs)

kept_by : (t : Bool) (c : ℕ) (cs : List ℕ) (n : ℕ) → t ≡ false → take n cs ≡ cs →
    take (cond (not t) (1 + n) 0) (c ∷ cs) ≡ c ∷ cs
kept_by true c cs n e h = absurd (cc)
kept_by false c cs n e h =
    let next : suc n ≡ 1 + n = omega arith in ap (λ k. take k (c ∷ cs)) (sym next) ∙ ap (λ ds. c ∷ ds) h

none_cut : (before : Option ℕ) (cs : List ℕ) → has_comment (blank_before before) cs ≡ false →
    take (comment_at before cs) cs ≡ cs
none_cut before [] h = refl
none_cut before (c ∷ cs) h =
    let parts = or_parts (begins_comment (before, c)) (has_comment (is_whitespace c) cs) h in
    kept_by (begins_comment (before, c)) c cs (comment_at (Some c) cs) parts.0 (none_cut (Some c) cs parts.1)

front_scalars : (line : List ℕ) (n : ℕ) → IsUtf8 line → all_scalars (take n (chars line)) ≡ true
front_scalars line n u =
    scalars_before (take n (chars line)) (drop n (chars line))
    (ap all_scalars (take-append-drop n (chars line)) ∙ scalars-chars line u)

comment_gone : (line : List ℕ) → IsUtf8 line → has_comment true (chars (without_comment line)) ≡ false
unfolding without_comment
comment_gone line u =
    let n = comment_at None (chars line) in
    ap (λ cs. has_comment true cs) (chars-encodes (take n (chars line)) (front_scalars line n u))
    ∙ cut_off None (chars line)

-- a line without one stays
pub comment_kept : (line : List ℕ) → IsUtf8 line → has_comment true (chars line) ≡ false →
    without_comment line ≡ line
unfolding without_comment
comment_kept line u h = ap encode_utf8_all (none_cut None (chars line) h) ∙ encodes-chars line u

-- ---- line feeds

abbrev IsUnended : List ℕ → Type 0
IsUnended = AllByRecursion (λ b. (b == 10) ≡ false)

front_unended : (xs ys : List ℕ) → IsUnended (xs ++ ys) → IsUnended xs
front_unended [] ys h = tt
front_unended (x ∷ xs) ys h = (h.0, front_unended xs ys h.1)

onto_by : (b : ℕ) (parts : List (List ℕ)) → (b == 10) ≡ false → AllByRecursion IsUnended parts →
    AllByRecursion IsUnended (onto_first b parts)
onto_by b [] e h = ((e, tt), tt)
onto_by b (part ∷ parts) e h = ((e, h.0), h.1)

split_by : (b : ℕ) (bs : List ℕ) (t : Bool) → (b == 10) ≡ t →
    AllByRecursion IsUnended (slice_split (λ b. b == 10) bs) →
    AllByRecursion IsUnended
    (cond t ([] ∷ slice_split (λ b. b == 10) bs) (onto_first b (slice_split (λ b. b == 10) bs)))
split_by b bs true e h = (tt, h)
split_by b bs false e h = onto_by b (slice_split (λ b. b == 10) bs) e h

parts_unended : (bs : List ℕ) → AllByRecursion IsUnended (slice_split (λ b. b == 10) bs)
parts_unended [] = (tt, tt)
parts_unended (b ∷ bs) = split_by b bs (b == 10) refl (parts_unended bs)

taken_unended : (n : ℕ) (line : List ℕ) → IsUnended line → IsUnended (take n line)
taken_unended n line h =
    front_unended (take n line) (drop n line) (subst IsUnended (sym (take-append-drop n line)) h)

strip_unended_by : (t : Bool) (line : List ℕ) → IsUnended line →
    IsUnended (if t then take (length line - 1) line else line)
strip_unended_by true line h = taken_unended (length line - 1) line h
strip_unended_by false line h = h

strip_unended : (line : List ℕ) → IsUnended line → IsUnended (strip_carriage_return line)
strip_unended line h = strip_unended_by (get_or line (length line - 1) 0 == 13) line h

comment_unended : (line : List ℕ) → IsUtf8 line → IsUnended line → IsUnended (without_comment line)
unfolding without_comment
comment_unended line u h =
    let cs = chars line in
    let n = comment_at None cs in
    let split : line ≡ encode_utf8_all (take n cs) ++ encode_utf8_all (drop n cs) =
    sym (encodes-chars line u) ∙ sym (ap encode_utf8_all (take-append-drop n cs))
    ∙ encodes-append (take n cs) (drop n cs) in
    front_unended (encode_utf8_all (take n cs)) (encode_utf8_all (drop n cs)) (subst IsUnended split h)

-- ---- UTF-8

abbrev is_feed : ℕ → Bool
is_feed byte = byte == 10

-- a text may be cut before an ASCII byte
cut_before : (text : List ℕ) (place : ℕ) → place < length text → get_or text place 0 < 128 →
    IsCharBoundary text place
cut_before text place h small = (omega arith, λ within large. absurd (omega arith))

alone_by : (b : ℕ) (bs : List ℕ) (t : Bool) → slice_split is_feed bs ≡ bs ∷ [] →
    length (b ∷ bs) ≤ cond (not t) (1 + position_or_len is_feed bs) 0 →
    cond t ([] ∷ slice_split is_feed bs) (onto_first b (slice_split is_feed bs)) ≡ (b ∷ bs) ∷ []
alone_by b bs true e h = absurd (omega arith)
alone_by b bs false e h = ap (onto_first b) e

rest_by : (b : ℕ) (bs : List ℕ) (t : Bool) →
    length (b ∷ bs) ≤ cond (not t) (1 + position_or_len is_feed bs) 0 →
    length bs ≤ position_or_len is_feed bs
rest_by b bs true h = absurd (omega arith)
rest_by b bs false h = omega arith

alone : (bs : List ℕ) → length bs ≤ position_or_len is_feed bs → slice_split is_feed bs ≡ bs ∷ []
alone [] h = refl
alone (b ∷ bs) h = alone_by b bs (is_feed b) (alone bs (rest_by b bs (is_feed b) h)) h

parts_by : (bs : List ℕ) (t : Bool) → nat_lt (position_or_len is_feed bs) (length bs) ≡ t → IsUtf8 bs →
    ((rest : List ℕ) → length rest < length bs → IsUtf8 rest →
    AllByRecursion IsUtf8 (slice_split is_feed rest)) → AllByRecursion IsUtf8 (slice_split is_feed bs)
parts_by bs true e u more =
    let place = position_or_len is_feed bs in
    let within : place < length bs = grind (arith, nat_tests) in
    let passes : is_feed (get_or bs place 0) ≡ true = passes_at_first is_feed bs 0 within in
    let feed : get_or bs place 0 ≡ 10 = grind (arith, nat_tests) in
    let front : IsUtf8 (take place bs) = IsUtf8-take bs place u (cut_before bs place within (omega arith)) in
    let back : IsUtf8 (drop (place + 1) bs) =
    IsUtf8-drop bs (place + 1) u (IsCharBoundary-after_ascii bs place u within (omega arith)) in
    let less : length (drop (place + 1) bs) < length bs = omega (arith, length-drop (place + 1) bs) in
    subst (AllByRecursion IsUtf8) (sym (slice_split_first is_feed bs 0 within))
    (front, more (drop (place + 1) bs) less back)
parts_by bs false e u more =
    let none : length bs ≤ position_or_len is_feed bs = grind (arith, nat_tests) in
    subst (AllByRecursion IsUtf8) (sym (alone bs none)) (u, tt)

parts_encoded : (count : ℕ) (bs : List ℕ) → length bs ≤ count → IsUtf8 bs →
    AllByRecursion IsUtf8 (slice_split is_feed bs)
parts_encoded zero [] h u = (IsUtf8-nil, tt)
parts_encoded zero (b ∷ bs) h u = absurd (omega arith)
parts_encoded (suc count) bs h u =
    parts_by bs (nat_lt (position_or_len is_feed bs) (length bs)) refl u
    (λ rest less v. parts_encoded count rest (omega arith) v)

strip_encoded_by : (line : List ℕ) (t : Bool) → (get_or line (length line - 1) 0 == 13) ≡ t → IsUtf8 line →
    IsUtf8 (if t then take (length line - 1) line else line)
strip_encoded_by [] true e u = absurd (cc)
strip_encoded_by (b ∷ bs) true e u =
    let line : List ℕ = b ∷ bs in
    let last : get_or line (length line - 1) 0 ≡ 13 = grind (arith, nat_tests) in
    IsUtf8-take line (length line - 1) u
    (cut_before line (length line - 1) (omega arith) (omega (arith, last)))
strip_encoded_by line false e u = u

strip_encoded : (line : List ℕ) → IsUtf8 line → IsUtf8 (strip_carriage_return line)
strip_encoded line u = strip_encoded_by line (get_or line (length line - 1) 0 == 13) refl u

comment_encoded : (line : List ℕ) → IsUtf8 line → IsUtf8 (without_comment line)
unfolding without_comment
comment_encoded line u =
    let n = comment_at None (chars line) in (take n (chars line), (front_scalars line n u, refl))

-- ---- lines

part_is_line : (part : List ℕ) → IsUtf8 part → IsUnended part →
    IsLine (without_comment (strip_carriage_return part))
part_is_line part u h =
    let line = strip_carriage_return part in
    let encoded = strip_encoded part u in
    record {
      encoded = comment_encoded line encoded;
      unended = comment_unended line encoded (strip_unended part h);
      uncommented = comment_gone line encoded;
    }

parts_are_lines : (parts : List (List ℕ)) → AllByRecursion IsUtf8 parts → AllByRecursion IsUnended parts →
    AllByRecursion IsLine (map (λ l. without_comment (strip_carriage_return l)) parts)
parts_are_lines [] u h = tt
parts_are_lines (part ∷ parts) u h = (part_is_line part u.0 h.0, parts_are_lines parts u.1 h.1)

abbrev AreLines : List (ℕ × List ℕ) → Type 0
AreLines = AllByRecursion (λ line. IsLine line.1)

numbered_lines : (n : ℕ) (lines : List (List ℕ)) → AllByRecursion IsLine lines →
    AreLines (enumerate_from n lines)
numbered_lines n [] h = tt
numbered_lines n (line ∷ lines) h = (h.0, numbered_lines (n + 1) lines h.1)

left_by : (line : ℕ × List ℕ) (lines : List (ℕ × List ℕ)) (t : Bool) → IsLine line.1 → AreLines lines →
    AreLines (cond t (line ∷ lines) lines)
left_by line lines true is h = (is, h)
left_by line lines false is h = h

left_lines : (lines : List (ℕ × List ℕ)) → AreLines lines →
    AreLines (filter (λ l. not (is_blank l.1)) lines)
left_lines [] h = tt
left_lines (line ∷ lines) h =
    left_by line (filter (λ l. not (is_blank l.1)) lines) (not (is_blank line.1)) h.0 (left_lines lines h.1)

pub text_lines_are_lines : (bytes : List ℕ) → IsUtf8 bytes →
    AllByRecursion (λ line. IsLine line.1) (text_lines bytes)
unfolding text_lines
text_lines_are_lines bytes u =
    let parts = slice_split is_feed bytes in
    let lines = map (λ l. without_comment (strip_carriage_return l)) parts in
    left_lines (enumerate_from 1 lines) (numbered_lines 1 lines
    (parts_are_lines parts (parts_encoded (length bytes) bytes (omega arith) u) (parts_unended bytes)))
