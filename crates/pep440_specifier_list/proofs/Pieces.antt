-- Reading the pieces of a text, one after another.
use Rattle.std.proofs.Common.{◌≡◌, ℕ, suc, ◌+◌, ◌<◌, ◌≤◌, ◌==◌, List, [], ◌∷◌, ◌++◌, length, take, drop}
use Rattle.std.proofs.Common.{get_or, Option, Some, None, Result, Ok, Err, refl, sym, ap, subst, ◌∙◌, arith}
use Rattle.std.proofs.Common.{add-one, drop-cons, length-append, append_assoc}
use Rattle.std.proofs.lemmas.List.{take-append-drop, take_more, append-nil}
use Rattle.std.proofs.lemmas.List.Splits.{join_with_byte-slice_split, length-slice_split}
use Rattle.std.proofs.lemmas.List.Sums.{sum_by-append}
use Rattle.std.specs.List.{join_with_byte}
use Rattle.std.specs.Prelude.{sum_by}
use Rattle.std.specs.Result.{result_ok}
use Rattle.read_outcome.specs.Outcome.{Tells}
use Rattle.pep440_specifier.specs.Matching.{SpecifierRecord}
use Rattle.pep440_specifier.specs.SpecifierReading.{SpecifierFault, specifier_reading, specifier_of}
use Rattle.pep440_specifier_list.specs.ListReading.{ListFault, placed_reading, ListReading, with_first}
use Rattle.pep440_specifier_list.specs.ListReading.{pieces_reading, pieces_of}

-- ---- members

abbrev pub with_found : Option SpecifierRecord → Option (List SpecifierRecord) → Option (List SpecifierRecord)
with_found None others = None
with_found (Some first) None = None
with_found (Some first) (Some others) = Some (first ∷ others)

-- what all pieces are, if each is a specifier
abbrev pub all_read : List (List ℕ) → Option (List SpecifierRecord)
all_read [] = Some []
all_read (piece ∷ pieces) = with_found (specifier_of piece) (all_read pieces)

both_found : (first : Result SpecifierRecord ListFault) (others : ListReading)
    → result_ok (with_first first others) ≡ with_found (result_ok first) (result_ok others)
both_found (Err fault) others = refl
both_found (Ok first) (Err fault) = refl
both_found (Ok first) (Ok others) = refl

placed_found : (line : List ℕ) (start end : ℕ) (read : Result SpecifierRecord SpecifierFault)
    → result_ok (placed_reading line start end read) ≡ result_ok read
placed_found line start end (Ok member) = refl
placed_found line start end (Err fault) = refl

found_one : (line : List ℕ) (start end : ℕ) (piece : List ℕ)
    → result_ok (placed_reading line start end (specifier_reading piece)) ≡ specifier_of piece
unfolding specifier_of
found_one line start end piece = placed_found line start end (specifier_reading piece)

pub all_are_read : (line : List ℕ) (start : ℕ) (pieces : List (List ℕ))
    → result_ok (pieces_reading line start pieces) ≡ all_read pieces
all_are_read line start [] = refl
all_are_read line start (piece ∷ pieces) =
    let next : ℕ = start + length piece + 1 in
    both_found (placed_reading line start (start + length piece) (specifier_reading piece))
    (pieces_reading line next pieces)
    ∙ ap (λ found. with_found found (result_ok (pieces_reading line next pieces)))
    (found_one line start (start + length piece) piece)
    ∙ ap (with_found (specifier_of piece)) (all_are_read line next pieces)

-- a first member and others
pub record AreRead (first : Option SpecifierRecord) (others : Option (List SpecifierRecord))
    (members : List SpecifierRecord) : Type 0 where
  pub member : SpecifierRecord
  pub more : List SpecifierRecord
  pub first_is : first ≡ Some member
  pub others_are : others ≡ Some more
  pub members_are : members ≡ member ∷ more

some_same : {A : Type 0} (x y : A) → Some x ≡ Some y → x ≡ y
some_same x y h = cc

pub first_and_others : (first : Option SpecifierRecord) (others : Option (List SpecifierRecord))
    (members : List SpecifierRecord) → with_found first others ≡ Some members → AreRead first others members
first_and_others None others members h = absurd (cc)
first_and_others (Some first) None members h = absurd (cc)
first_and_others (Some first) (Some others) members h = record {
  member = first;
  more = others;
  first_is = refl;
  others_are = refl;
  members_are = sym (some_same (first ∷ others) members h);
}

pub with_both : (first : Option SpecifierRecord) (others : Option (List SpecifierRecord)) (member : SpecifierRecord)
    (more : List SpecifierRecord) → first ≡ Some member → others ≡ Some more
    → with_found first others ≡ Some (member ∷ more)
with_both first others member more f o = ap (λ x. with_found x others) f ∙ ap (with_found (Some member)) o

-- ---- places

-- how far the pieces reach, with the comma behind each
abbrev pub extent : List (List ℕ) → ℕ
extent pieces = sum_by (λ piece. length piece + 1) pieces

pub extent-append : (before after : List (List ℕ)) → extent (before ++ after) ≡ extent before + extent after
extent-append before after = sum_by-append (λ piece. length piece + 1) before after

pub extent-cons : (piece : List ℕ) (pieces : List (List ℕ))
    → extent (piece ∷ pieces) ≡ length piece + 1 + extent pieces
extent-cons piece pieces =
    (let parts : extent (piece ∷ pieces) ≡ 0 + (length piece + 1) + extent pieces = extent-append (piece ∷ []) pieces in
    omega (arith, parts))

extent_joined : (piece : List ℕ) (pieces : List (List ℕ))
    → extent (piece ∷ pieces) ≡ length (join_with_byte 44 (piece ∷ pieces)) + 1
extent_joined piece [] =
    (let one = extent-cons piece [] in let none : extent [] ≡ 0 = refl in omega (arith, one, none))
extent_joined piece (next ∷ pieces) =
    (let more = extent_joined next pieces in
    let long : length (join_with_byte 44 (piece ∷ next ∷ pieces))
    ≡ length piece + suc (length (join_with_byte 44 (next ∷ pieces))) =
    length-append piece (44 ∷ join_with_byte 44 (next ∷ pieces)) in
    let one = extent-cons piece (next ∷ pieces) in omega (arith, more, long, one))

extent_by : (pieces : List (List ℕ)) → 0 < length pieces → extent pieces ≡ length (join_with_byte 44 pieces) + 1
extent_by [] h = absurd (omega arith)
extent_by (piece ∷ pieces) h = extent_joined piece pieces

pub some_piece : (text : List ℕ) → 0 < length (pieces_of text)
some_piece text = omega (arith, length-slice_split (λ b. b == 44) text)

extent_whole : (text : List ℕ) → extent (pieces_of text) ≡ length text + 1
extent_whole text =
    extent_by (pieces_of text) (some_piece text) ∙ ap (λ t. length t + 1) (join_with_byte-slice_split 44 text)

-- ---- the loop

-- members before what is read
abbrev pub behind : List SpecifierRecord → ListReading → ListReading
behind members (Ok others) = Ok (members ++ others)
behind members (Err fault) = Err fault

behind_none : (read : ListReading) → behind [] read ≡ read
behind_none (Ok others) = refl
behind_none (Err fault) = refl

behind_push : (members : List SpecifierRecord) (member : SpecifierRecord) (read : ListReading)
    → behind members (with_first (Ok member) read) ≡ behind (members ++ member ∷ []) read
behind_push members member (Ok others) = ap Ok (sym (append_assoc members (member ∷ []) others))
behind_push members member (Err fault) = refl

-- so many pieces are read
pub record IsReading (text : List ℕ) (count : ℕ) (members : List SpecifierRecord) (start : ℕ) : Type 0 where
  pub goes_on : behind members (pieces_reading text start (drop count (pieces_of text)))
      ≡ pieces_reading text 0 (pieces_of text)
  pub starts : start ≡ extent (take count (pieces_of text))

begins : (text : List ℕ) → IsReading text 0 [] 0
begins text = record { goes_on = behind_none (pieces_reading text 0 (pieces_of text)); starts = refl }

pub reading_begins : (text : List ℕ) (members : List SpecifierRecord) → members ≡ [] → IsReading text 0 members 0
reading_begins text members e = subst (λ ms. IsReading text 0 ms 0) (sym e) (begins text)

-- the piece at a place of the pieces
abbrev pub IsPiece : List ℕ → ℕ → List ℕ → Type 0
IsPiece text count piece = (count < length (pieces_of text)) × (piece ≡ get_or (pieces_of text) count piece)

left_at : (pieces : List (List ℕ)) (count : ℕ) (piece : List ℕ) → count < length pieces
    → piece ≡ get_or pieces count piece → drop count pieces ≡ piece ∷ drop (count + 1) pieces
left_at pieces count piece h e =
    drop-cons pieces count piece h ∙ ap (λ p. p ∷ drop (suc count) pieces) (sym e)
    ∙ ap (λ k. piece ∷ drop k pieces) (sym (add-one count))

pub split_at : (pieces : List (List ℕ)) (count : ℕ) (piece : List ℕ) → count < length pieces
    → piece ≡ get_or pieces count piece → pieces ≡ take count pieces ++ (piece ∷ drop (count + 1) pieces)
split_at pieces count piece h e =
    sym (take-append-drop count pieces) ∙ ap (λ rest. take count pieces ++ rest) (left_at pieces count piece h e)

-- a piece and the comma behind it lie within the text
pub within : (text : List ℕ) (count : ℕ) (members : List SpecifierRecord) (start : ℕ) (piece : List ℕ)
    → IsReading text count members start → IsPiece text count piece → start + length piece ≤ length text
within text count members start piece reading at =
    let split = ap extent (split_at (pieces_of text) count piece at.0 at.1) in
    let parts = extent-append (take count (pieces_of text)) (piece ∷ drop (count + 1) (pieces_of text)) in
    let whole = extent_whole text in
    let starts = reading.starts in
    let one = extent-cons piece (drop (count + 1) (pieces_of text)) in
    omega (arith, split, parts, whole, starts, one)

-- the piece and what is left behind it
at_piece : (text : List ℕ) (count : ℕ) (members : List SpecifierRecord) (start : ℕ) (piece : List ℕ)
    → IsReading text count members start → IsPiece text count piece
    → behind members (with_first (placed_reading text start (start + length piece) (specifier_reading piece))
    (pieces_reading text (start + length piece + 1) (drop (count + 1) (pieces_of text))))
    ≡ pieces_reading text 0 (pieces_of text)
at_piece text count members start piece reading at =
    sym (ap (λ left. behind members (pieces_reading text start left)) (left_at (pieces_of text) count piece at.0 at.1))
    ∙ reading.goes_on

reading_more : (text : List ℕ) (count : ℕ) (members : List SpecifierRecord) (start : ℕ) (piece : List ℕ)
    (member : SpecifierRecord) → IsReading text count members start → IsPiece text count piece
    → placed_reading text start (start + length piece) (specifier_reading piece) ≡ Ok member
    → IsReading text (count + 1) (members ++ member ∷ []) (start + length piece + 1)
reading_more text count members start piece member reading at r =
    let left : List (List ℕ) = drop (count + 1) (pieces_of text) in
    let read : ListReading = pieces_reading text (start + length piece + 1) left in
    let front : take (count + 1) (pieces_of text) ≡ take count (pieces_of text) ++ piece ∷ [] =
    take_more (pieces_of text) count piece at.0 ∙ ap (λ p. take count (pieces_of text) ++ p ∷ []) (sym at.1) in
    record {
      goes_on =
          sym (behind_push members member read)
          ∙ sym (ap (λ first. behind members (with_first first read)) r)
          ∙ at_piece text count members start piece reading at;
      starts =
          (let e = ap extent front in
          let parts = extent-append (take count (pieces_of text)) (piece ∷ []) in
          let one = extent-cons piece [] in
          let none : extent [] ≡ 0 = refl in
          let starts = reading.starts in omega (arith, e, parts, starts, one, none));
    }

pub reading_step : (text : List ℕ) (count : ℕ) (members : List SpecifierRecord) (start : ℕ) (piece : List ℕ)
    (member : SpecifierRecord) → IsReading text count members start → IsPiece text count piece
    → placed_reading text start (start + length piece) (specifier_reading piece) ≡ Ok member
    → (next : ℕ) (more : List SpecifierRecord) → next ≡ count + 1 → more ≡ members ++ member ∷ []
    → IsReading text next more (start + length piece + 1)
reading_step text count members start piece member reading at r next more n m =
    let step = reading_more text count members start piece member reading at r in
    let by_count = subst (λ k. IsReading text k (members ++ member ∷ []) (start + length piece + 1)) (sym n) step in
    subst (λ ms. IsReading text next ms (start + length piece + 1)) (sym m) by_count

-- the fault of the piece at which reading stands is that of the text
pub tells_at : (text : List ℕ) (count : ℕ) (members : List SpecifierRecord) (start : ℕ) (piece : List ℕ)
    → IsReading text count members start → IsPiece text count piece → (told : Option ListFault)
    → Tells told (placed_reading text start (start + length piece) (specifier_reading piece))
    → Tells told (pieces_reading text 0 (pieces_of text))
tells_at text count members start piece reading at None h = tt
tells_at text count members start piece reading at (Some fault) h =
    sym (at_piece text count members start piece reading at)
    ∙ ap (λ first. behind members (with_first first
    (pieces_reading text (start + length piece + 1) (drop (count + 1) (pieces_of text))))) h

drop_all : (pieces : List (List ℕ)) → drop (length pieces) pieces ≡ []
drop_all [] = refl
drop_all (piece ∷ pieces) = drop_all pieces

-- at the end all pieces are read
pub all_pieces : (text : List ℕ) (count : ℕ) (members : List SpecifierRecord) (start : ℕ)
    → IsReading text count members start → count ≡ length (pieces_of text)
    → pieces_reading text 0 (pieces_of text) ≡ Ok members
all_pieces text count members start reading h =
    sym reading.goes_on
    ∙ ap (λ left. behind members (pieces_reading text start left))
    (ap (λ n. drop n (pieces_of text)) h ∙ drop_all (pieces_of text))
    ∙ ap Ok (append-nil members)
