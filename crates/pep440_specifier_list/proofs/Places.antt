-- The pieces between commas stand on characters of their text.
use Rattle.std.proofs.Common.{◌≡◌, ℕ, suc, ◌+◌, ◌<◌, List, [], ◌∷◌, ◌++◌, length, take, drop, get_or}
use Rattle.std.proofs.Common.{refl, sym, ap, subst, ◌∙◌, arith, length-append}
use Rattle.std.proofs.lemmas.List.Splits.{join_with_byte-slice_split}
use Rattle.std.proofs.lemmas.Str.{IsCharBoundary-start, IsCharBoundary-end, IsCharBoundary-before_ascii}
use Rattle.std.proofs.lemmas.Str.{IsCharBoundary-after_ascii, IsCharBoundary-from_rest, IsUtf8-drop}
use Rattle.std.specs.List.{join_with_byte}
use Rattle.std.specs.Str.{IsUtf8, IsCharBoundary}
use Rattle.pep440_specifier.specs.Matching.{SpecifierRecord}
use Rattle.pep440_specifier_list.specs.Places.{IsPlaced}
use Rattle.pep440_specifier_list.specs.ListReading.{pieces_of}
use Rattle.pep440_specifier_list.proofs.Pieces.{extent, extent-cons, IsReading, IsPiece, split_at}

pub front_of : (xs ys : List ℕ) → take (length xs) (xs ++ ys) ≡ xs
front_of [] ys = refl
front_of (x ∷ xs) ys = ap (λ zs. x ∷ zs) (front_of xs ys)

behind_one : (xs : List ℕ) (y : ℕ) (ys : List ℕ) → drop (length xs + 1) (xs ++ y ∷ ys) ≡ ys
behind_one [] y ys = refl
behind_one (x ∷ xs) y ys =
    (let e : length (x ∷ xs) + 1 ≡ suc (length xs + 1) = omega arith in ap (λ n. drop n (x ∷ (xs ++ y ∷ ys))) e
    ∙ behind_one xs y ys)

at_comma : (xs ys : List ℕ) → get_or (xs ++ 44 ∷ ys) (length xs) 0 ≡ 44
at_comma [] ys = refl
at_comma (x ∷ xs) ys = at_comma xs ys

-- ---- around a comma

module _ (front rest : List ℕ) where
  long : length (front ++ 44 ∷ rest) ≡ length front + suc (length rest)
  long = length-append front (44 ∷ rest)

  pub before_comma : IsCharBoundary (front ++ 44 ∷ rest) (length front)
  before_comma =
      let comma = at_comma front rest in
      let l = long in
      IsCharBoundary-before_ascii (front ++ 44 ∷ rest) (length front) (omega (arith, l)) (omega (arith, comma))

  after_comma : IsUtf8 (front ++ 44 ∷ rest) → IsCharBoundary (front ++ 44 ∷ rest) (length front + 1)
  after_comma u =
      let comma = at_comma front rest in
      let l = long in
      IsCharBoundary-after_ascii (front ++ 44 ∷ rest) (length front) u (omega (arith, l)) (omega (arith, comma))

  pub behind_comma : IsUtf8 (front ++ 44 ∷ rest) → IsUtf8 rest
  behind_comma u =
      subst IsUtf8 (behind_one front 44 rest)
      (IsUtf8-drop (front ++ 44 ∷ rest) (length front + 1) u (after_comma u))

  later : (at : ℕ) → IsCharBoundary rest at → IsCharBoundary (front ++ 44 ∷ rest) (length front + 1 + at)
  later at h =
      let l = long in
      IsCharBoundary-from_rest (front ++ 44 ∷ rest) (length front + 1) at (omega (arith, l))
      (subst (λ text. IsCharBoundary text at) (sym (behind_one front 44 rest)) h)

  later_placed : (start end : ℕ) → IsPlaced rest start end
      → IsPlaced (front ++ 44 ∷ rest) (length front + 1 + start) (length front + 1 + end)
  later_placed start end h = record {
    ordered = (let o = h.ordered in omega (arith, o));
    starts = later start h.starts;
    ends = later end h.ends;
  }

-- ---- pieces

-- the first piece
first_placed : (piece : List ℕ) (after : List (List ℕ)) → IsUtf8 (join_with_byte 44 (piece ∷ after))
    → IsPlaced (join_with_byte 44 (piece ∷ after)) 0 (length piece)
first_placed piece [] u = record {
  ordered = omega arith;
  starts = IsCharBoundary-start piece u;
  ends = IsCharBoundary-end piece;
}
first_placed piece (next ∷ after) u =
    let rest : List ℕ = join_with_byte 44 (next ∷ after) in
    record {
      ordered = omega arith;
      starts = IsCharBoundary-start (piece ++ 44 ∷ rest) u;
      ends = before_comma piece rest;
    }

join_more : (piece : List ℕ) (pieces : List (List ℕ)) → 0 < length pieces
    → join_with_byte 44 (piece ∷ pieces) ≡ piece ++ 44 ∷ join_with_byte 44 pieces
join_more piece [] h = absurd (omega arith)
join_more piece (next ∷ pieces) h = refl

some_more : (before : List (List ℕ)) (piece : List ℕ) (after : List (List ℕ)) → 0 < length (before ++ piece ∷ after)
some_more [] piece after = omega arith
some_more (p ∷ ps) piece after = omega arith

placed_in : (before : List (List ℕ)) (piece : List ℕ) (after : List (List ℕ))
    → IsUtf8 (join_with_byte 44 (before ++ piece ∷ after))
    → IsPlaced (join_with_byte 44 (before ++ piece ∷ after)) (extent before) (extent before + length piece)
placed_in [] piece after u =
    let e : length piece ≡ extent [] + length piece = (let none : extent [] ≡ 0 = refl in omega (arith, none)) in
    subst (λ end. IsPlaced (join_with_byte 44 (piece ∷ after)) 0 end) e (first_placed piece after u)
placed_in (p ∷ ps) piece after u =
    let pieces : List (List ℕ) = ps ++ piece ∷ after in
    let rest : List ℕ = join_with_byte 44 pieces in
    let same : join_with_byte 44 (p ∷ pieces) ≡ p ++ 44 ∷ rest = join_more p pieces (some_more ps piece after) in
    let inside = placed_in ps piece after (behind_comma p rest (subst IsUtf8 same u)) in
    let here = later_placed p rest (extent ps) (extent ps + length piece) inside in
    let s : length p + 1 + extent ps ≡ extent (p ∷ ps) = sym (extent-cons p ps) in
    let e : length p + 1 + (extent ps + length piece) ≡ extent (p ∷ ps) + length piece = omega (arith, s) in
    let starts = subst (λ n. IsPlaced (p ++ 44 ∷ rest) n (length p + 1 + (extent ps + length piece))) s here in
    let ends = subst (λ n. IsPlaced (p ++ 44 ∷ rest) (extent (p ∷ ps)) n) e starts in
    subst (λ text. IsPlaced text (extent (p ∷ ps)) (extent (p ∷ ps) + length piece)) (sym same) ends

-- the piece at which reading stands
pub piece_placed : (text : List ℕ) (count : ℕ) (members : List SpecifierRecord) (start : ℕ) (piece : List ℕ)
    → IsUtf8 text → IsReading text count members start → IsPiece text count piece
    → IsPlaced text start (start + length piece)
piece_placed text count members start piece u reading at =
    let before : List (List ℕ) = take count (pieces_of text) in
    let after : List (List ℕ) = drop (count + 1) (pieces_of text) in
    let same : text ≡ join_with_byte 44 (before ++ piece ∷ after) =
    sym (join_with_byte-slice_split 44 text)
    ∙ ap (join_with_byte 44) (split_at (pieces_of text) count piece at.0 at.1) in
    let placed = placed_in before piece after (subst IsUtf8 same u) in
    let here = subst (λ t. IsPlaced t (extent before) (extent before + length piece)) (sym same) placed in
    subst (λ n. IsPlaced text n (n + length piece)) (sym reading.starts) here
