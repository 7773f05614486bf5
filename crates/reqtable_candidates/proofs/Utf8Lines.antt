-- The lines of a text are texts.
use Rattle.std.proofs.Common.{◌≡◌, ℕ, zero, suc, ◌+◌, ◌-◌, ◌<◌, ◌≤◌, ◌==◌, Bool, true, false, not, cond}
use Rattle.std.proofs.Common.{if◌then◌else◌, nat_lt, List, [], ◌∷◌, length, take, drop, get_or, map, refl, ap}
use Rattle.std.proofs.Common.{sym, subst, ◌∙◌, arith}
use Rattle.std.proofs.lemmas.Bool.Decides.{nat_tests}
use Rattle.std.proofs.lemmas.List.{take-append-drop, length-drop}
use Rattle.std.proofs.lemmas.List.Sums.{passes_at_first}
use Rattle.std.proofs.lemmas.List.Splits.{slice_split_first}
use Rattle.std.proofs.lemmas.Str.{IsUtf8-nil, IsUtf8-take, IsUtf8-drop, IsCharBoundary-after_ascii}
use Rattle.std.proofs.lemmas.Str.{scalars-chars}
use Rattle.std.specs.List.{AllByRecursion, filter, slice_split, onto_first, enumerate_from, position_or_len}
use Rattle.std.specs.Str.{chars, all_scalars, IsUtf8, IsCharBoundary}
use Rattle.std.specs.Str.Lines.{strip_carriage_return}
use Rattle.reqtable_candidates.specs.TextLines.{with_before, begins_comment, without_comment, is_blank, text_lines}
use Rattle.reqtable_candidates.proofs.CandidateParts.{scalars_before}

-- a text may be cut before an ASCII byte
cut_before : (text : List ℕ) (place : ℕ) → place < length text → get_or text place 0 < 128 → IsCharBoundary text place
cut_before text place h small = (omega arith, λ within large. absurd (omega arith))

-- ---- parts between line feeds

abbrev is_feed : ℕ → Bool
is_feed byte = byte == 10

one_part_by : (b : ℕ) (bs : List ℕ) (t : Bool) → slice_split is_feed bs ≡ bs ∷ []
    → length (b ∷ bs) ≤ cond (not t) (1 + position_or_len is_feed bs) 0
    → cond t ([] ∷ slice_split is_feed bs) (onto_first b (slice_split is_feed bs)) ≡ (b ∷ bs) ∷ []
one_part_by b bs true e h = absurd (omega arith)
one_part_by b bs false e h = ap (onto_first b) e

rest_by : (b : ℕ) (bs : List ℕ) (t : Bool) → length (b ∷ bs) ≤ cond (not t) (1 + position_or_len is_feed bs) 0
    → length bs ≤ position_or_len is_feed bs
rest_by b bs true h = absurd (omega arith)
rest_by b bs false h = omega arith

-- without a line feed a text is one part
one_part : (bs : List ℕ) → length bs ≤ position_or_len is_feed bs → slice_split is_feed bs ≡ bs ∷ []
one_part [] h = refl
one_part (b ∷ bs) h = one_part_by b bs (is_feed b) (one_part bs (rest_by b bs (is_feed b) h)) h

parts_by : (count : ℕ) (bs : List ℕ) (t : Bool) → nat_lt (position_or_len is_feed bs) (length bs) ≡ t → IsUtf8 bs
    → ((rest : List ℕ) → length rest < length bs → IsUtf8 rest → AllByRecursion IsUtf8 (slice_split is_feed rest))
    → AllByRecursion IsUtf8 (slice_split is_feed bs)
parts_by count bs true e u more =
    let place = position_or_len is_feed bs in
    let within : place < length bs = grind (arith, nat_tests) in
    let passes : is_feed (get_or bs place 0) ≡ true = passes_at_first is_feed bs 0 within in
    let feed : get_or bs place 0 ≡ 10 = grind (arith, nat_tests) in
    let front : IsUtf8 (take place bs) = IsUtf8-take bs place u (cut_before bs place within (omega arith)) in
    let back : IsUtf8 (drop (place + 1) bs) =
    IsUtf8-drop bs (place + 1) u (IsCharBoundary-after_ascii bs place u within (omega arith)) in
    let less : length (drop (place + 1) bs) < length bs = omega (arith, length-drop (place + 1) bs) in
    subst (AllByRecursion IsUtf8) (sym (slice_split_first is_feed bs 0 within)) (front, more (drop (place + 1) bs) less back)
parts_by count bs false e u more =
    let none : length bs ≤ position_or_len is_feed bs = grind (arith, nat_tests) in
    subst (AllByRecursion IsUtf8) (sym (one_part bs none)) (u, tt)

parts_utf8 : (count : ℕ) (bs : List ℕ) → length bs ≤ count → IsUtf8 bs → AllByRecursion IsUtf8 (slice_split is_feed bs)
parts_utf8 zero [] h u = (IsUtf8-nil, tt)
parts_utf8 zero (b ∷ bs) h u = absurd (omega arith)
parts_utf8 (suc count) bs h u =
    parts_by count bs (nat_lt (position_or_len is_feed bs) (length bs)) refl u (λ rest less v. parts_utf8 count rest (omega arith) v)

-- ---- lines

strip_by : (line : List ℕ) (t : Bool) → (get_or line (length line - 1) 0 == 13) ≡ t → IsUtf8 line
    → IsUtf8 (if t then take (length line - 1) line else line)
strip_by [] true e u = absurd (cc)
strip_by (b ∷ bs) true e u =
    let line : List ℕ = b ∷ bs in
    let last : get_or line (length line - 1) 0 ≡ 13 = grind (arith, nat_tests) in
    IsUtf8-take line (length line - 1) u (cut_before line (length line - 1) (omega arith) (omega (arith, last)))
strip_by line false e u = u

strip_utf8 : (line : List ℕ) → IsUtf8 line → IsUtf8 (strip_carriage_return line)
strip_utf8 line u = strip_by line (get_or line (length line - 1) 0 == 13) refl u

comment_utf8 : (line : List ℕ) → IsUtf8 line → IsUtf8 (without_comment line)
unfolding without_comment
comment_utf8 line u =
    let cs = chars line in
    let n = position_or_len begins_comment (with_before cs) in
    (take n cs, (scalars_before (take n cs) (drop n cs) (ap all_scalars (take-append-drop n cs) ∙ scalars-chars line u), refl))

each_utf8 : (parts : List (List ℕ)) → AllByRecursion IsUtf8 parts
    → AllByRecursion IsUtf8 (map (λ l. without_comment (strip_carriage_return l)) parts)
each_utf8 [] h = tt
each_utf8 (part ∷ parts) h = (comment_utf8 (strip_carriage_return part) (strip_utf8 part h.0), each_utf8 parts h.1)

abbrev AreUtf8 : List (ℕ × List ℕ) → Type 0
AreUtf8 = AllByRecursion (λ line. IsUtf8 line.1)

numbered_utf8 : (n : ℕ) (lines : List (List ℕ)) → AllByRecursion IsUtf8 lines → AreUtf8 (enumerate_from n lines)
numbered_utf8 n [] h = tt
numbered_utf8 n (line ∷ lines) h = (h.0, numbered_utf8 (n + 1) lines h.1)

kept_by : (line : ℕ × List ℕ) (lines : List (ℕ × List ℕ)) (t : Bool) → IsUtf8 line.1 → AreUtf8 lines
    → AreUtf8 (cond t (line ∷ lines) lines)
kept_by line lines true u h = (u, h)
kept_by line lines false u h = h

kept_utf8 : (lines : List (ℕ × List ℕ)) → AreUtf8 lines → AreUtf8 (filter (λ l. not (is_blank l.1)) lines)
kept_utf8 [] h = tt
kept_utf8 (line ∷ lines) h =
    kept_by line (filter (λ l. not (is_blank l.1)) lines) (not (is_blank line.1)) h.0 (kept_utf8 lines h.1)

pub lines_utf8 : (bytes : List ℕ) → IsUtf8 bytes → AllByRecursion (λ line. IsUtf8 line.1) (text_lines bytes)
unfolding text_lines
lines_utf8 bytes u =
    let parts = slice_split is_feed bytes in
    let lines = map (λ l. without_comment (strip_carriage_return l)) parts in
    kept_utf8 (enumerate_from 1 lines) (numbered_utf8 1 lines (each_utf8 parts (parts_utf8 (length bytes) bytes (omega arith) u)))
