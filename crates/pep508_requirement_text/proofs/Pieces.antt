-- Characters and their bytes: what is cut at commas, and white space around a piece.
use Rattle.std.proofs.Common.{◌≡◌, ℕ, ◌<◌, ◌==◌, ◌&&◌, Bool, true, false, cond, List, []}
use Rattle.std.proofs.Common.{◌∷◌, ◌++◌, length, map, refl, ap, sym, subst, ◌∙◌, arith, lit<}
use Rattle.std.proofs.lemmas.List.{append-nil}
use Rattle.std.proofs.lemmas.List.Splits.{length-slice_split, slice_split-cons_yes, slice_split-cons_no}
use Rattle.std.proofs.lemmas.Str.{encode_ascii, length-le-encodes}
use Rattle.std.specs.Char.{is_whitespace, encode_utf8}
use Rattle.std.specs.List.{AllByRecursion, slice_split, onto_first, join_with_byte}
use Rattle.std.specs.Str.{encode_utf8_all, skip_leading_whitespace, trim, trim_start, trim_end}
use Rattle.std.specs.Str.{drop_trailing_whitespace}
use Rattle.pep440_specifier.specs.SpecifierText.{AreSpaces}
use Rattle.pep508_requirement_text.proofs.Decoded.{decoded}
use Rattle.pep508_error.proofs.Tests.{the_same, and_parts}
use Rattle.pep508_error.proofs.Cuts.{NonePasses}
use Rattle.pep508_requirement_text.proofs.EncodedCuts.{apart_char, around}

-- ---- cutting at commas

abbrev pub is_comma : ℕ → Bool
is_comma c = c == 44

-- the characters put before the first piece
abbrev before_pieces : List ℕ → List (List ℕ) → List (List ℕ)
before_pieces [] pieces = pieces
before_pieces (c ∷ cs) pieces = onto_first c (before_pieces cs pieces)

split_front : (front rest : List ℕ) → NonePasses is_comma front
    → slice_split is_comma (front ++ rest) ≡ before_pieces front (slice_split is_comma rest)
split_front [] rest h = refl
split_front (c ∷ cs) rest h =
    slice_split-cons_no is_comma c (cs ++ rest) h.0 ∙ ap (onto_first c) (split_front cs rest h.1)

before_first_piece : (front piece : List ℕ) (pieces : List (List ℕ))
    → before_pieces front (piece ∷ pieces) ≡ (front ++ piece) ∷ pieces
before_first_piece [] piece pieces = refl
before_first_piece (c ∷ cs) piece pieces = ap (onto_first c) (before_first_piece cs piece pieces)

with_encoded : (c : ℕ) (pieces : List (List ℕ)) → 0 < length pieces
    → before_pieces (encode_utf8 c) (map encode_utf8_all pieces) ≡ map encode_utf8_all (onto_first c pieces)
with_encoded c [] h = absurd (omega arith)
with_encoded c (piece ∷ pieces) h = before_first_piece (encode_utf8 c) (encode_utf8_all piece) (map encode_utf8_all pieces)

pub some_piece : (cs : List ℕ) → 0 < length (slice_split is_comma cs)
some_piece cs = omega (arith, length-slice_split is_comma cs)

encoded_by : (c : ℕ) (cs : List ℕ) (t : Bool) → is_comma c ≡ t
    → slice_split is_comma (encode_utf8_all cs) ≡ map encode_utf8_all (slice_split is_comma cs)
    → slice_split is_comma (encode_utf8_all (c ∷ cs)) ≡ map encode_utf8_all (slice_split is_comma (c ∷ cs))
encoded_by c cs true e h =
    ap (λ bs. slice_split is_comma (bs ++ encode_utf8_all cs)) (ap encode_utf8 (the_same c 44 e) ∙ encode_ascii 44 (lit< tt))
    ∙ ap (λ pieces. [] ∷ pieces) h
    ∙ ap (map encode_utf8_all) (sym (slice_split-cons_yes is_comma c cs e))
encoded_by c cs false e h =
    split_front (encode_utf8 c) (encode_utf8_all cs) (apart_char 44 (lit< tt) c e)
    ∙ ap (before_pieces (encode_utf8 c)) h
    ∙ with_encoded c (slice_split is_comma cs) (some_piece cs)
    ∙ ap (map encode_utf8_all) (sym (slice_split-cons_no is_comma c cs e))

-- the bytes are cut where the characters are
pub split_encoded : (cs : List ℕ)
    → slice_split is_comma (encode_utf8_all cs) ≡ map encode_utf8_all (slice_split is_comma cs)
split_encoded [] = refl
split_encoded (c ∷ cs) = encoded_by c cs (is_comma c) refl (split_encoded cs)

-- cutting at commas gives pieces without commas back
pub split_joined : (pieces : List (List ℕ)) → 0 < length pieces → AllByRecursion (NonePasses is_comma) pieces
    → slice_split is_comma (join_with_byte 44 pieces) ≡ pieces
split_joined [] some h = absurd (omega arith)
split_joined (p ∷ []) some h =
    ap (slice_split is_comma) (sym (append-nil p)) ∙ split_front p [] h.0 ∙ before_first_piece p [] []
    ∙ ap (λ q. q ∷ []) (append-nil p)
split_joined (p ∷ q ∷ ps) some h =
    split_front p (44 ∷ join_with_byte 44 (q ∷ ps)) h.0
    ∙ ap (λ pieces. before_pieces p ([] ∷ pieces)) (split_joined (q ∷ ps) (omega arith) h.1)
    ∙ before_first_piece p [] (q ∷ ps)
    ∙ ap (λ r. r ∷ q ∷ ps) (append-nil p)

-- ---- pieces of an encoding

pub encoded_pieces : (cs : List ℕ) (pieces : List (List ℕ)) → 0 < length pieces
    → encode_utf8_all cs ≡ join_with_byte 44 pieces → (parts : List (List ℕ)) × (pieces ≡ map encode_utf8_all parts)
encoded_pieces cs [] some e = absurd (omega arith)
encoded_pieces cs (p ∷ []) some e = (cs ∷ [], ap (λ q. q ∷ []) (sym e))
encoded_pieces cs (p ∷ q ∷ ps) some e =
    let a = around 44 (lit< tt) cs p (join_with_byte 44 (q ∷ ps)) e in
    let more = encoded_pieces a.behind (q ∷ ps) (omega arith) (sym a.rest_is) in
    (a.before ∷ more.0, ap (λ x. x ∷ q ∷ ps) a.front_is ∙ ap (λ xs. encode_utf8_all a.before ∷ xs) more.1)

-- ---- white space at the end

pub record Trailing (cs : List ℕ) : Type 0 where
  pub spaces : List ℕ
  pub are_spaces : AreSpaces spaces
  pub split : cs ≡ drop_trailing_whitespace cs ++ spaces

nothing_long : (cs : List ℕ) → (length cs == 0) ≡ true → cs ≡ []
nothing_long [] h = refl
nothing_long (c ∷ cs) h = absurd (let n : length (c ∷ cs) ≡ 0 = the_same (length (c ∷ cs)) 0 h in omega (arith, n))

trailing_by : (c : ℕ) (cs : List ℕ) (t : Bool)
    → (is_whitespace c && length (drop_trailing_whitespace cs) == 0) ≡ t
    → Trailing cs → Trailing (c ∷ cs)
trailing_by c cs true e h =
    let parts = and_parts (is_whitespace c) (length (drop_trailing_whitespace cs) == 0) e in
    let only : cs ≡ h.spaces = h.split ∙ ap (λ ds. ds ++ h.spaces) (nothing_long (drop_trailing_whitespace cs) parts.1) in
    record {
      spaces = c ∷ cs;
      are_spaces = (parts.0, subst AreSpaces (sym only) h.are_spaces);
      split = ap (λ t. cond t [] (c ∷ drop_trailing_whitespace cs) ++ c ∷ cs) (sym e);
    }
trailing_by c cs false e h = record {
  spaces = h.spaces;
  are_spaces = h.are_spaces;
  split = ap (λ ds. c ∷ ds) h.split ∙ ap (λ t. cond t [] (c ∷ drop_trailing_whitespace cs) ++ h.spaces) (sym e);
}

pub trailing_found : (cs : List ℕ) → Trailing cs
trailing_found [] = record { spaces = []; are_spaces = tt; split = refl }
trailing_found (c ∷ cs) =
    trailing_by c cs (is_whitespace c && length (drop_trailing_whitespace cs) == 0) refl (trailing_found cs)

pub only_trailing : (spaces : List ℕ) → AreSpaces spaces → drop_trailing_whitespace spaces ≡ []
only_trailing [] h = refl
only_trailing (c ∷ cs) h =
    ap (λ t. cond (t && length (drop_trailing_whitespace cs) == 0) [] (c ∷ drop_trailing_whitespace cs)) h.0
    ∙ ap (λ ds. cond (length ds == 0) [] (c ∷ ds)) (only_trailing cs h.1)

pub trailing_again : (front spaces : List ℕ) → NonePasses is_whitespace front → AreSpaces spaces
    → drop_trailing_whitespace (front ++ spaces) ≡ front
trailing_again [] spaces h k = only_trailing spaces k
trailing_again (c ∷ cs) spaces h k =
    ap (λ t. cond (t && length (drop_trailing_whitespace (cs ++ spaces)) == 0) [] (c ∷ drop_trailing_whitespace (cs ++ spaces))) h.0
    ∙ ap (λ ds. c ∷ ds) (trailing_again cs spaces h.1 k)

-- ---- bytes without white space

pub trimmed_start : (cs : List ℕ)
    → trim_start (encode_utf8_all cs) ≡ encode_utf8_all (skip_leading_whitespace cs)
unfolding trim_start
trimmed_start cs = ap (λ ds. encode_utf8_all (skip_leading_whitespace ds)) (decoded cs)

trimmed_end : (cs : List ℕ)
    → trim_end (encode_utf8_all cs) ≡ encode_utf8_all (drop_trailing_whitespace cs)
unfolding trim_end
trimmed_end cs = ap (λ ds. encode_utf8_all (drop_trailing_whitespace ds)) (decoded cs)

abbrev pub bare : List ℕ → List ℕ
bare cs = drop_trailing_whitespace (skip_leading_whitespace cs)

pub trimmed : (cs : List ℕ) → trim (encode_utf8_all cs) ≡ encode_utf8_all (bare cs)
trimmed cs = ap trim_end (trimmed_start cs) ∙ trimmed_end (skip_leading_whitespace cs)

pub nothing_encoded : (cs : List ℕ) → (length (encode_utf8_all cs) == 0) ≡ true → cs ≡ []
nothing_encoded [] h = refl
nothing_encoded (c ∷ cs) h =
    let n : length (encode_utf8_all (c ∷ cs)) ≡ 0 = the_same (length (encode_utf8_all (c ∷ cs))) 0 h in
    let long = length-le-encodes (c ∷ cs) in
    let some : 0 < length (c ∷ cs) = omega arith in
    absurd (omega (arith, n, long, some))
