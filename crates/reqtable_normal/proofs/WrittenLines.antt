-- Whole lines with a line feed behind each are the lines of that text.
use Rattle.std.proofs.Common.{◌≡◌, ◌∙◌, ℕ, ◌+◌, ◌==◌, Bool, true, false, not, cond, List, [], ◌∷◌, ◌++◌, map}
use Rattle.std.proofs.Common.{append_assoc, refl, ap, arith}
use Rattle.std.proofs.lemmas.List.Elements.{All-from_recursion}
use Rattle.std.proofs.lemmas.List.Splits.{slice_split_at}
use Rattle.std.proofs.lemmas.Str.{chars-nil, IsUtf8-nil, IsUtf8-append, IsUtf8-from_ascii}
use Rattle.std.proofs.lemmas.Str.Ascii.{IsAscii-nil, IsAscii-cons}
use Rattle.std.specs.Char.{is_whitespace}
use Rattle.std.specs.List.{AllByRecursion, filter, flat_map, slice_split, enumerate_from, list_all}
use Rattle.std.specs.Str.{IsUtf8}
use Rattle.std.specs.Str.Lines.{strip_carriage_return}
use Rattle.reqtable_candidates.specs.TextLines.{without_comment, is_blank, text_lines}
use Rattle.pep508_reading_back.specs.Lines.{has_comment, IsWholeLine}
use Rattle.reqtable_normal.proofs.ReadLines.{comment_kept}

abbrev pub ended : List ℕ → List ℕ
ended line = line ++ 10 ∷ []

-- the text of these lines
abbrev pub joined : List (List ℕ) → List ℕ
joined lines = flat_map ended lines

pub record IsWritten (line : List ℕ) : Type 0 where
  pub whole : IsWholeLine line
  pub black : is_blank line ≡ false

joined_cut : (lines : List (List ℕ)) → AllByRecursion IsWritten lines →
    slice_split (λ b. b == 10) (joined lines) ≡ lines ++ [] ∷ []
joined_cut [] h = refl
joined_cut (line ∷ lines) h =
    ap (slice_split (λ b. b == 10)) (append_assoc line (10 ∷ []) (joined lines))
    ∙ slice_split_at (λ b. b == 10) line 10 (joined lines)
    (All-from_recursion (λ b. (b == 10) ≡ false) line h.0.whole.0.unended) refl
    ∙ ap (λ ls. line ∷ ls) (joined_cut lines h.1)

stays : (line : List ℕ) → IsWritten line → without_comment (strip_carriage_return line) ≡ line
stays line h =
    ap without_comment h.whole.1 ∙ comment_kept line h.whole.0.encoded h.whole.0.uncommented

end_stays : without_comment (strip_carriage_return []) ≡ []
end_stays = comment_kept [] IsUtf8-nil (ap (λ cs. has_comment true cs) chars-nil)

all_stay : (lines : List (List ℕ)) → AllByRecursion IsWritten lines →
    map (λ l. without_comment (strip_carriage_return l)) (lines ++ [] ∷ []) ≡ lines ++ [] ∷ []
all_stay [] h = ap (λ l. l ∷ []) end_stays
all_stay (line ∷ lines) h = (λ i. stays line h.0 i ∷ all_stay lines h.1 i)

end_is_blank : is_blank [] ≡ true
unfolding is_blank
end_is_blank = ap (λ cs. list_all is_whitespace cs) chars-nil

abbrev is_kept : ℕ × List ℕ → Bool
is_kept line = not (is_blank line.1)

all_left : (n : ℕ) (lines : List (List ℕ)) → AllByRecursion IsWritten lines →
    filter is_kept (enumerate_from n (lines ++ [] ∷ [])) ≡ enumerate_from n lines
all_left n [] h = ap (λ b. cond (not b) ((n, []) ∷ []) []) end_is_blank
all_left n (line ∷ lines) h =
    let rest = filter is_kept (enumerate_from (n + 1) (lines ++ [] ∷ [])) in
    ap (λ b. cond (not b) ((n, line) ∷ rest) rest) h.0.black
    ∙ ap (λ ls. (n, line) ∷ ls) (all_left (n + 1) lines h.1)

pub joined_lines : (lines : List (List ℕ)) → AllByRecursion IsWritten lines →
    text_lines (joined lines) ≡ enumerate_from 1 lines
unfolding text_lines
joined_lines lines h =
    ap (λ ps. filter is_kept (enumerate_from 1 (map (λ l. without_comment (strip_carriage_return l)) ps)))
    (joined_cut lines h)
    ∙ ap (λ ls. filter is_kept (enumerate_from 1 ls)) (all_stay lines h) ∙ all_left 1 lines h

pub joined_encoded : (lines : List (List ℕ)) → AllByRecursion IsWritten lines → IsUtf8 (joined lines)
joined_encoded [] h = IsUtf8-nil
joined_encoded (line ∷ lines) h =
    IsUtf8-append (ended line) (joined lines)
    (IsUtf8-append line (10 ∷ []) h.0.whole.0.encoded
    (IsUtf8-from_ascii (10 ∷ []) (IsAscii-cons 10 [] (omega arith) IsAscii-nil)))
    (joined_encoded lines h.1)
