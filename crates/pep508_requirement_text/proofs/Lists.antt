-- The list of specifiers behind a name: what is read is what the grammar gives.
use Rattle.std.proofs.Common.{◌≡◌, ◌↔◌, ℕ, ◌<◌, ◌==◌, Bool, true, false, cond, if◌then◌else◌, List}
use Rattle.std.proofs.Common.{[], ◌∷◌, length, map, Option, Some, None, Ok, Err}
use Rattle.std.proofs.Common.{refl, ap, sym, subst, ◌∙◌, arith, lit<}
use Rattle.std.proofs.lemmas.Bool.Decides.{nat_tests}
use Rattle.std.proofs.lemmas.List.Splits.{join_with_byte-slice_split, slice_split-cons_no}
use Rattle.std.proofs.lemmas.Str.{chars-nil}
use Rattle.std.specs.Char.{is_whitespace}
use Rattle.std.specs.List.{AllByRecursion, AllZip, slice_split, onto_first}
use Rattle.std.specs.Result.{result_ok}
use Rattle.std.specs.Str.{chars, encode_utf8_all, skip_leading_whitespace}
use Rattle.pep440_operator.specs.OperatorReading.{ends_operator}
use Rattle.pep440_specifier.specs.Matching.{SpecifierRecord}
use Rattle.pep440_specifier.specs.SpecifierText.{IsSpecifierText}
use Rattle.pep440_specifier.specs.SpecifierReading.{specifier_of, specifier_reading, front_in}
use Rattle.pep440_specifier.specs.SpecifierReading.{before_operator}
use Rattle.pep440_specifier_list.specs.ListReading.{ListReading, list_reading, specifiers_of, pieces_of}
use Rattle.pep440_specifier_list.specs.ListText.{AreSpecifierTexts}
use Rattle.pep440_specifier_list.proofs.Commas.{NoComma, specifier}
use Rattle.pep440_specifier_list.proofs.Pieces.{all_read, with_found, first_and_others, with_both}
use Rattle.pep440_specifier_list.proofs.Whole.{whole}
use Rattle.pep508_requirement_text.specs.FrontReading.{Malformed, if_list, specifiers_of_text}
use Rattle.pep508_requirement_text.proofs.Decoded.{decoded}
use Rattle.pep508_error.proofs.Tests.{the_same}
use Rattle.pep508_error.proofs.Cuts.{NonePasses}
use Rattle.pep508_requirement_text.proofs.Pieces.{is_comma, split_encoded}
use Rattle.pep508_requirement_text.proofs.Pieces.{split_joined}
use Rattle.pep508_requirement_text.proofs.Pieces.{some_piece, encoded_pieces}
use Rattle.pep508_requirement_text.proofs.EncodedCuts.{encoded_apart}

-- ---- by pieces

nothing_read : specifier_of [] ≡ None
unfolding specifier_of specifier_reading
nothing_read = ap (λ cs. result_ok (before_operator (front_in ends_operator (skip_leading_whitespace cs)))) chars-nil

some_text : (text : List ℕ) (given : List SpecifierRecord) → all_read (pieces_of text) ≡ Some given
    → (length text == 0) ≡ false
some_text [] given h =
    let none : all_read (pieces_of []) ≡ None = ap (λ found. with_found found (Some [])) nothing_read in absurd (cc)
some_text (b ∷ bs) given h = (let n : 0 < length (b ∷ bs) = omega arith in grind (arith, nat_tests))

if_list_is : (read : ListReading) (given : List SpecifierRecord) → result_ok read ≡ Some given
    → if_list read ≡ Ok given
if_list_is (Ok one) given h = (let same : one ≡ given = cc in ap Ok same)
if_list_is (Err fault) given h = absurd (cc)

list_is : (read : ListReading) (given : List SpecifierRecord) → if_list read ≡ Ok given
    → result_ok read ≡ Some given
list_is (Ok one) given h = (let same : one ≡ given = cc in ap Some same)
list_is (Err fault) given h = absurd (cc)

pub list_by_pieces : (text : List ℕ) (given : List SpecifierRecord) → all_read (pieces_of text) ≡ Some given
    → specifiers_of_text text ≡ Ok given
unfolding specifiers_of_text specifiers_of
list_by_pieces text given h =
    let some = some_text text given h in
    ap (λ t. if t then Err Malformed else if_list (list_reading text)) some
    ∙ if_list_is (list_reading text) given (whole text some ∙ h)

pieces_by : (text : List ℕ) (given : List SpecifierRecord) (t : Bool) → (length text == 0) ≡ t
    → (if t then Err Malformed else if_list (list_reading text)) ≡ Ok given
    → all_read (pieces_of text) ≡ Some given
unfolding specifiers_of
pieces_by text given true e h = absurd (cc)
pieces_by text given false e h = sym (whole text e) ∙ list_is (list_reading text) given h

pub pieces_by_list : (text : List ℕ) (given : List SpecifierRecord) → specifiers_of_text text ≡ Ok given
    → all_read (pieces_of text) ≡ Some given
unfolding specifiers_of_text
pieces_by_list text given h = pieces_by text given (length text == 0) refl h

-- ---- white space at the front of a list

space_is_no_comma : (c : ℕ) (t : Bool) → is_comma c ≡ t → is_whitespace c ≡ true → t ≡ false
space_is_no_comma c true e h =
    (let space : is_whitespace 44 ≡ true = ap is_whitespace (sym (the_same c 44 e)) ∙ h in absurd (cc))
space_is_no_comma c false e h = refl

spaced_piece : (c : ℕ) (piece : List ℕ) → is_whitespace c ≡ true
    → specifier_of (encode_utf8_all (c ∷ piece)) ≡ specifier_of (encode_utf8_all piece)
unfolding specifier_of specifier_reading
spaced_piece c piece h =
    let read : List ℕ → Option SpecifierRecord = λ cs. result_ok (before_operator (front_in ends_operator cs)) in
    ap (λ cs. read (skip_leading_whitespace cs)) (decoded (c ∷ piece))
    ∙ ap (λ t. read (cond t (skip_leading_whitespace piece) (c ∷ piece))) h
    ∙ ap (λ cs. read (skip_leading_whitespace cs)) (sym (decoded piece))

spaced_pieces : (c : ℕ) (pieces : List (List ℕ)) → is_whitespace c ≡ true → 0 < length pieces
    → all_read (map encode_utf8_all (onto_first c pieces)) ≡ all_read (map encode_utf8_all pieces)
spaced_pieces c [] h some = absurd (omega arith)
spaced_pieces c (p ∷ ps) h some =
    ap (λ first. with_found first (all_read (map encode_utf8_all ps))) (spaced_piece c p h)

by_characters : (cs : List ℕ)
    → all_read (pieces_of (encode_utf8_all cs)) ≡ all_read (map encode_utf8_all (slice_split is_comma cs))
by_characters cs = ap all_read (split_encoded cs)

spaced_list : (c : ℕ) (cs : List ℕ) → is_whitespace c ≡ true
    → all_read (pieces_of (encode_utf8_all (c ∷ cs))) ≡ all_read (pieces_of (encode_utf8_all cs))
spaced_list c cs h =
    let cut : slice_split is_comma (c ∷ cs) ≡ onto_first c (slice_split is_comma cs) =
    slice_split-cons_no is_comma c cs (space_is_no_comma c (is_comma c) refl h) in
    by_characters (c ∷ cs)
    ∙ ap (λ pieces. all_read (map encode_utf8_all pieces)) cut
    ∙ spaced_pieces c (slice_split is_comma cs) h (some_piece cs)
    ∙ sym (by_characters cs)

skipped_by : (c : ℕ) (cs : List ℕ) (t : Bool) → is_whitespace c ≡ t
    → all_read (pieces_of (encode_utf8_all (skip_leading_whitespace cs))) ≡ all_read (pieces_of (encode_utf8_all cs))
    → all_read (pieces_of (encode_utf8_all (cond t (skip_leading_whitespace cs) (c ∷ cs))))
    ≡ all_read (pieces_of (encode_utf8_all (c ∷ cs)))
skipped_by c cs true e h = h ∙ sym (spaced_list c cs e)
skipped_by c cs false e h = refl

pub skipped_list : (cs : List ℕ)
    → all_read (pieces_of (encode_utf8_all (skip_leading_whitespace cs))) ≡ all_read (pieces_of (encode_utf8_all cs))
skipped_list [] = refl
skipped_list (c ∷ cs) = skipped_by c cs (is_whitespace c) refl (skipped_list cs)

-- ---- the grammar

none_passes : (cs : List ℕ) → NoComma cs → NonePasses is_comma cs
none_passes [] h = tt
none_passes (c ∷ cs) h = (h.0, none_passes cs h.1)

-- the text of a specifier has no comma
apart : (piece : List ℕ) (member : SpecifierRecord) → IsSpecifierText (encode_utf8_all piece) member
    → NonePasses is_comma (encode_utf8_all piece)
apart piece member h =
    encoded_apart 44 (lit< tt) piece (subst (NonePasses is_comma) (decoded piece)
    (none_passes (chars (encode_utf8_all piece)) (specifier (encode_utf8_all piece) member h)))

all_apart : (pieces : List (List ℕ)) (given : List SpecifierRecord)
    → AllZip IsSpecifierText (map encode_utf8_all pieces) given
    → AllByRecursion (NonePasses is_comma) (map encode_utf8_all pieces)
all_apart [] given h = tt
all_apart (p ∷ ps) [] h = absurd h
all_apart (p ∷ ps) (m ∷ ms) h = (apart p m h.0, all_apart ps ms h.1)

-- a text is read as a specifier exactly where it is the text of that specifier
abbrev pub TextLaw : Type 0
TextLaw = (text : List ℕ) (specifier : SpecifierRecord) → (specifier_of text ≡ Some specifier) ↔ IsSpecifierText text specifier

module _ (law : TextLaw) where
  found_pieces : (pieces : List (List ℕ)) (given : List SpecifierRecord) → all_read pieces ≡ Some given
      → AllZip IsSpecifierText pieces given
  found_pieces [] [] h = tt
  found_pieces [] (m ∷ ms) h = absurd (cc)
  found_pieces (p ∷ ps) given h =
      let are = first_and_others (specifier_of p) (all_read ps) given h in
      subst (AllZip IsSpecifierText (p ∷ ps)) (sym are.members_are)
      ((law p are.member).0 are.first_is, found_pieces ps are.more are.others_are)

  again_pieces : (pieces : List (List ℕ)) (given : List SpecifierRecord) → AllZip IsSpecifierText pieces given
      → all_read pieces ≡ Some given
  again_pieces [] [] h = refl
  again_pieces [] (m ∷ ms) h = absurd h
  again_pieces (p ∷ ps) [] h = absurd h
  again_pieces (p ∷ ps) (m ∷ ms) h =
      with_both (specifier_of p) (all_read ps) m ms ((law p m).1 h.0) (again_pieces ps ms h.1)

  pub given_found : (text : List ℕ) (given : List SpecifierRecord) → all_read (pieces_of text) ≡ Some given
      → AreSpecifierTexts text given
  given_found text given h = record {
    pieces = pieces_of text;
    joined = sym (join_with_byte-slice_split 44 text);
    are_specifiers = found_pieces (pieces_of text) given h;
    nonempty = some_piece text;
  }

  pub given_again : (cs : List ℕ) (given : List SpecifierRecord) → AreSpecifierTexts (encode_utf8_all cs) given
      → all_read (pieces_of (encode_utf8_all cs)) ≡ Some given
  given_again cs given h =
      let e = encoded_pieces cs h.pieces h.nonempty h.joined in
      let apart = subst (AllByRecursion (NonePasses is_comma)) (sym e.1)
      (all_apart e.0 given (subst (λ ps. AllZip IsSpecifierText ps given) e.1 h.are_specifiers)) in
      ap (λ t. all_read (pieces_of t)) h.joined
      ∙ ap all_read (split_joined h.pieces h.nonempty apart)
      ∙ again_pieces h.pieces given h.are_specifiers
