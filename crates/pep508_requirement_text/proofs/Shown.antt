-- Which piece of a list a refusal shows.
use Rattle.std.proofs.Common.{◌≡◌, ℕ, ◌+◌, ◌-◌, List, [], ◌∷◌, ◌++◌, length, drop}
use Rattle.std.proofs.Common.{None, Result, Ok, Err, is_some, refl, ap, subst, ◌∙◌, arith, length-append}
use Rattle.std.proofs.Common.{flat_map}
use Rattle.std.proofs.lemmas.List.{length-drop}
use Rattle.std.proofs.lemmas.Str.{chars-nil}
use Rattle.std.specs.List.{AllByRecursion}
use Rattle.std.specs.Result.{result_ok}
use Rattle.std.specs.Str.{trim_start, skip_leading_whitespace, IsCharBoundary}
use Rattle.pep440_specifier.specs.Matching.{SpecifierRecord}
use Rattle.pep440_specifier.specs.SpecifierReading.{SpecifierFault, specifier_reading, specifier_of}
use Rattle.pep440_operator.specs.OperatorReading.{ends_operator}
use Rattle.pep440_specifier.specs.SpecifierReading.{front_in, before_operator}
use Rattle.pep440_specifier_list.specs.ListReading.{ListFault, ListReading, fault_at, placed_reading}
use Rattle.pep440_specifier_list.specs.ListReading.{with_first, pieces_reading, line_reading, list_reading}
use Rattle.pep440_specifier_list.specs.ListReading.{pieces_of}
use Rattle.pep508_error.specs.declared.cursor.Cursor.{Cursor}
use Rattle.pep508_error.specs.declared.refusal.Refusal.{Refusal}
use Rattle.pep508_error.specs.Cursors.{rest_of, IsBehind}
use Rattle.pep508_requirement_text.specs.FrontSpans.{Shows, ShowsPiece, ShowsTrimmed, IsSpecifier, with_comma}

-- ---- the first piece that is no specifier

record FirstIn (start : ℕ) (pieces : List (List ℕ)) (fault : ListFault) : Type 0 where
  earlier : List (List ℕ)
  piece : List ℕ
  later : List (List ℕ)
  pieces_are : pieces ≡ earlier ++ piece ∷ later
  specifiers : AllByRecursion IsSpecifier earlier
  wrong : specifier_of piece ≡ None
  starts : fault.start ≡ start + length (flat_map with_comma earlier)
  ends : fault.end ≡ fault.start + length piece

is_wrong : (piece : List ℕ) (fault : SpecifierFault) → specifier_reading piece ≡ Err fault → specifier_of piece ≡ None
unfolding specifier_of
is_wrong piece fault e = ap result_ok e

is_right : (piece : List ℕ) (member : SpecifierRecord) → specifier_reading piece ≡ Ok member → IsSpecifier piece
unfolding specifier_of
is_right piece member e = ap (λ (r : Result SpecifierRecord SpecifierFault). is_some (result_ok r)) e

module _ (line : List ℕ) where
  first_fault : (start : ℕ) (piece : List ℕ) (pieces : List (List ℕ)) (fault : ListFault)
      (said : Result SpecifierRecord SpecifierFault) (others : ListReading) → specifier_reading piece ≡ said
      → ((f : ListFault) → others ≡ Err f → FirstIn (start + length piece + 1) pieces f)
      → with_first (placed_reading line start (start + length piece) said) others ≡ Err fault
      → FirstIn start (piece ∷ pieces) fault
  first_fault start piece pieces fault (Err f) others is rest e =
      let same : fault_at line start (start + length piece) f ≡ fault = cc in
      let begins : start ≡ fault.start = ap (λ (x : ListFault). x.start) same in
      let stops : start + length piece ≡ fault.end = ap (λ (x : ListFault). x.end) same in
      record {
        earlier = [];
        piece = piece;
        later = pieces;
        pieces_are = refl;
        specifiers = tt;
        wrong = is_wrong piece f is;
        starts = omega (arith, begins);
        ends = omega (arith, begins, stops);
      }
  first_fault start piece pieces fault (Ok member) (Err f) is rest e =
      let same : f ≡ fault = cc in
      let found = subst (FirstIn (start + length piece + 1) pieces) same (rest f refl) in
      let begins = found.starts in
      let long = length-append (piece ++ 44 ∷ []) (flat_map with_comma found.earlier) in
      let short = length-append piece (44 ∷ []) in
      record {
        earlier = piece ∷ found.earlier;
        piece = found.piece;
        later = found.later;
        pieces_are = ap (λ (ps : List (List ℕ)). piece ∷ ps) found.pieces_are;
        specifiers = (is_right piece member is, found.specifiers);
        wrong = found.wrong;
        starts = omega (arith, begins, long, short);
        ends = found.ends;
      }
  first_fault start piece pieces fault (Ok member) (Ok members) is rest e = absurd (cc)

  first_in : (start : ℕ) (pieces : List (List ℕ)) (fault : ListFault) → pieces_reading line start pieces ≡ Err fault
      → FirstIn start pieces fault
  first_in start [] fault e = absurd (cc)
  first_in start (piece ∷ pieces) fault e =
      first_fault start piece pieces fault (specifier_reading piece)
      (pieces_reading line (start + length piece + 1) pieces) refl
      (λ f. first_in (start + length piece + 1) pieces f) e

first_of_line : (text : List ℕ) (fault : ListFault) → line_reading text ≡ Err fault → FirstIn 0 (pieces_of text) fault
first_of_line [] fault e = absurd (cc)
first_of_line (b ∷ bs) fault e = first_in (b ∷ bs) 0 (pieces_of (b ∷ bs)) fault e

first_of : (text : List ℕ) (fault : ListFault) → list_reading text ≡ Err fault → FirstIn 0 (pieces_of text) fault
unfolding list_reading
first_of text fault e = first_of_line text fault e

-- ---- what is shown

pub shows_at : (input : List ℕ) (start len start' len' : ℕ) (refusal : Refusal) → Shows input start len refusal
    → start ≡ start' → len ≡ len' → Shows input start' len' refusal
shows_at input start len start' len' refusal h s l =
    record { kind_is = refl; input_is = h.input_is; start_is = h.start_is ∙ s; len_is = h.len_is ∙ l }

module _ (input text : List ℕ) (place : ℕ) (refusal : Refusal) where
  -- that of the first fault
  pub shows_fault : (fault : ListFault) (start end : ℕ) → list_reading text ≡ Err fault → fault.start ≡ start
      → fault.end ≡ end → Shows input (place + start) (end - start) refusal → ShowsPiece input place text refusal
  shows_fault fault start end e at_start at_end h =
      let found = first_of text fault e in
      let begins = found.starts in
      let stops = found.ends in
      record {
        before = flat_map with_comma found.earlier;
        piece = found.piece;
        first = record {
          earlier = found.earlier;
          later = found.later;
          pieces = found.pieces_are;
          specifiers = found.specifiers;
          wrong = found.wrong;
          stands = refl;
        };
        shown = shows_at input (place + start) (end - start)
            (place + length (flat_map with_comma found.earlier)) (length found.piece) refusal h
            (omega (arith, begins, at_start)) (omega (arith, stops, at_start, at_end));
      }

nothing_read : specifier_reading [] ≡ before_operator None
unfolding specifier_reading
nothing_read = ap (λ (cs : List ℕ). before_operator (front_in ends_operator (skip_leading_whitespace cs))) chars-nil

nothing_is_wrong : specifier_of [] ≡ None
unfolding specifier_of
nothing_is_wrong = ap result_ok nothing_read

-- the one piece of an empty list
pub shows_nothing : (input text : List ℕ) (place : ℕ) (refusal : Refusal) → text ≡ []
    → Shows input place 0 refusal → ShowsPiece input place text refusal
shows_nothing input text place refusal e h = record {
  before = [];
  piece = [];
  first = record {
    earlier = [];
    later = [];
    pieces = ap pieces_of e;
    specifiers = tt;
    wrong = nothing_is_wrong;
    stands = refl;
  };
  shown = shows_at input place 0 (place + 0) 0 refusal h (omega arith) refl;
}

-- ---- places

pub place_behind : (earlier later : Cursor) (n : ℕ) → IsBehind earlier later
    → length (rest_of earlier) ≡ n + length (rest_of later) → later.position ≡ earlier.position + n
place_behind earlier later n h e =
    let l = length-drop earlier.position earlier.input.now in
    let m = length-drop later.position later.input.now in
    let same = ap length h.input in
    let within = earlier.between.0 in
    let also = later.between.0 in
    let ordered = h.ordered in
    omega (arith, l, m, same, within, also, ordered, e)

-- the place so many bytes later
pub place_after : (earlier later : Cursor) (n : ℕ) → IsBehind earlier later → rest_of later ≡ drop n (rest_of earlier)
    → IsCharBoundary (rest_of earlier) n → later.position ≡ earlier.position + n
place_after earlier later n h e at =
    let l = length-drop n (rest_of earlier) in
    let same = ap length e in
    let within = at.0 in
    place_behind earlier later n h (omega (arith, l, same, within))

-- the place behind a text
pub place_past : (earlier later : Cursor) (text : List ℕ) → IsBehind earlier later
    → rest_of earlier ≡ text ++ rest_of later → later.position ≡ earlier.position + length text
place_past earlier later text h e =
    place_behind earlier later (length text) h (ap length e ∙ length-append text (rest_of later))

pub shows_trimmed : (input text run list : List ℕ) (place later : ℕ) (refusal : Refusal) → text ≡ run ++ list
    → list ≡ trim_start text → later ≡ place + length run → ShowsPiece input later list refusal
    → ShowsTrimmed input place text refusal
shows_trimmed input text run list place later refusal whole is at h =
    let l = ap length whole ∙ length-append run list in
    let there : later ≡ place + (length text - length list) = omega (arith, l, at) in
    let moved = subst (λ (n : ℕ). ShowsPiece input n list refusal) there h in
    subst (λ (t : List ℕ). ShowsPiece input (place + (length text - length t)) t refusal) is moved
