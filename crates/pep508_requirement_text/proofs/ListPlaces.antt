-- Lists of specifiers: what refuses one, and where.
use Rattle.std.proofs.Common.{◌≡◌, ◌==◌, ℕ, ◌+◌, ◌-◌, ◌<◌, ◌≤◌, Bool, true, false, if◌then◌else◌, List, []}
use Rattle.std.proofs.Common.{◌∷◌, ◌++◌, length, take, drop, get_or, Option, Some, None, Result, Ok, Err}
use Rattle.std.proofs.Common.{refl, sym, ap, subst, ◌∙◌, arith, length-append, append_assoc, lit<, ⊎_elim}
use Rattle.std.proofs.lemmas.Bool.{cases_lt}
use Rattle.std.proofs.lemmas.List.{length-drop, get_or-drop, get_or_append_left, append_cancel_left}
use Rattle.std.proofs.lemmas.List.{take-append-drop}
use Rattle.std.proofs.lemmas.Str.{IsCharBoundary-at_seam, IsCharBoundary-before_ascii, IsUtf8-append}
use Rattle.std.proofs.lemmas.Str.{IsUtf8-drop, encodes-chars}
use Rattle.std.specs.Option.{option_map}
use Rattle.std.specs.Str.{trim_start, encode_utf8_all, IsUtf8, IsCharBoundary}
use Rattle.std.specs.String.{string_bytes}
use Rattle.read_outcome.specs.Outcome.{Tells as TellsFault}
use Rattle.pep440_specifier.specs.Matching.{SpecifierRecord}
use Rattle.pep440_specifier.specs.SpecifierReading.{SpecifierFault, told_specifier, specifier_reading}
use Rattle.pep440_specifier_list.specs.Places.{IsPlaced}
use Rattle.pep440_specifier_list.specs.ListReading.{ListFault, ListReading, fault_at, placed_reading}
use Rattle.pep440_specifier_list.specs.ListReading.{with_first, pieces_reading, line_reading, list_reading}
use Rattle.pep440_specifier_list.specs.ListReading.{told_list, TellsOrMemory, pieces_of}
use Rattle.pep440_specifier_list.specs.declared.refused_piece.RefusedPiece.{RefusedPiece}
use Rattle.pep440_specifier_list.specs.declared.error.VersionSpecifiersParseError.{VersionSpecifiersParseError}
use Rattle.pep440_specifier_list.specs.declared.error.VersionSpecifiersParseError.TheVariants.{Memory}
use Rattle.pep440_specifier_list.specs.declared.error.VersionSpecifiersParseError.TheVariants.{Specifier}
use Rattle.std.specs.Str.Pattern.{HasCharAt}
use Rattle.pep508_url.specs.Vars.{Variables}
use Rattle.pep508_error.specs.declared.cursor.Cursor.{Cursor}
use Rattle.pep508_error.specs.declared.refusal.RefusalKind.{RefusalKind}
use Rattle.pep508_error.specs.Cursors.{rest_of, IsAt}
use Rattle.pep508_requirement_text.specs.FrontReading.{Refused, if_list, specifiers_of_text, listed, enclosed}
use Rattle.pep508_requirement_text.specs.FrontReading.{if_there}
use Rattle.pep508_error.specs.Steps.{◌>>=◌}
use Rattle.pep508_error.specs.Cuts.{cut_around}
use Rattle.pep508_requirement_text.specs.FrontReading.Refused.{Malformed}
use Rattle.pep508_requirement_text.specs.FrontReading.Source.{Specifiers}
use Rattle.pep508_requirement_text.specs.FrontOutcome.{Tells}
use Rattle.pep508_requirement_text.specs.FrontFound.{enclosed_at}
use Rattle.pep508_requirement_text.proofs.Outcomes.{stops}
use Rattle.pep508_requirement_text.specs.UrlTurns.{AreBlanks}

-- ---- the text of a fault

first_line : (line : List ℕ) (start end : ℕ) (first : Result SpecifierRecord SpecifierFault) (others : ListReading)
    (fault : ListFault) → ((f : ListFault) → others ≡ Err f → f.line ≡ line)
    → with_first (placed_reading line start end first) others ≡ Err fault → fault.line ≡ line
first_line line start end (Err f) others fault h e =
    let same : fault_at line start end f ≡ fault = cc in
    ap (λ (x : ListFault). x.line) (sym same)
first_line line start end (Ok member) (Err f) fault h e = h fault e
first_line line start end (Ok member) (Ok members) fault h e = absurd (cc)

line_of : (line : List ℕ) (start : ℕ) (pieces : List (List ℕ)) (fault : ListFault)
    → pieces_reading line start pieces ≡ Err fault → fault.line ≡ line
line_of line start [] fault e = absurd (cc)
line_of line start (piece ∷ pieces) fault e =
    first_line line start (start + length piece) (specifier_reading piece)
    (pieces_reading line (start + length piece + 1) pieces) fault
    (λ f. line_of line (start + length piece + 1) pieces f) e

whole_line : (text : List ℕ) (fault : ListFault) → line_reading text ≡ Err fault → fault.line ≡ text
whole_line [] fault e = absurd (cc)
whole_line (b ∷ bs) fault e = line_of (b ∷ bs) 0 (pieces_of (b ∷ bs)) fault e

pub fault_line : (text : List ℕ) (fault : ListFault) → list_reading text ≡ Err fault → fault.line ≡ text
unfolding list_reading
fault_line text fault e = whole_line text fault e

abbrev Told : RefusedPiece → List ℕ → Type 0
Told piece text =
    (fault : ListFault) × (list_reading text ≡ Err fault) × (string_bytes piece.line ≡ text)
    × (fault.start ≡ piece.start) × (fault.end ≡ piece.end)

told_by : (piece : RefusedPiece) (text : List ℕ) (said : Option SpecifierFault)
    → TellsFault (option_map (fault_at (string_bytes piece.line) piece.start piece.end) said) (list_reading text)
    → (option_map (fault_at (string_bytes piece.line) piece.start piece.end) said ≡ None → Specifier piece ≡ Memory)
    → Told piece text
told_by piece text None h plain = absurd (let same : Specifier piece ≡ Memory = plain refl in cc)
told_by piece text (Some f) h plain = (
  fault_at (string_bytes piece.line) piece.start piece.end f,
  h,
  fault_line text (fault_at (string_bytes piece.line) piece.start piece.end f) h,
  refl,
  refl,
)

-- a refused piece is one of the text
piece_told : (piece : RefusedPiece) (text : List ℕ) → TellsFault (told_list (Specifier piece)) (list_reading text)
    → TellsOrMemory (Specifier piece) → Told piece text
piece_told piece text h plain = told_by piece text (told_specifier piece.error) h plain

pub error_told : (error : VersionSpecifiersParseError) (piece : RefusedPiece) (text : List ℕ) → error ≡ Specifier piece
    → TellsFault (told_list error) (list_reading text) → TellsOrMemory error → Told piece text
error_told error piece text e h plain =
    piece_told piece text
    (subst (λ (x : VersionSpecifiersParseError). TellsFault (told_list x) (list_reading text)) e h)
    (subst (λ (x : VersionSpecifiersParseError). TellsOrMemory x) e plain)

-- ---- lists

pub empty_list : (text : List ℕ) → (length text == 0) ≡ true → specifiers_of_text text ≡ Err Malformed
unfolding specifiers_of_text
empty_list text h = ap (λ (t : Bool). if t then Err Malformed else if_list (list_reading text)) h

pub refused_list : (text : List ℕ) (fault : ListFault) → (length text == 0) ≡ false → list_reading text ≡ Err fault
    → specifiers_of_text text ≡ Err Malformed
unfolding specifiers_of_text
refused_list text fault h e =
    ap (λ (t : Bool). if t then Err Malformed else if_list (list_reading text)) h ∙ ap if_list e

pub read_list : (text : List ℕ) (given : List SpecifierRecord) → (length text == 0) ≡ false → list_reading text ≡ Ok given
    → specifiers_of_text text ≡ Ok given
unfolding specifiers_of_text
read_list text given h e =
    ap (λ (t : Bool). if t then Err Malformed else if_list (list_reading text)) h ∙ ap if_list e

-- ---- places

module _ (line rest : List ℕ) where
  pub longer_boundary : (i : ℕ) → IsUtf8 rest → IsCharBoundary line i → IsCharBoundary (line ++ rest) i
  longer_boundary i u h =
      let l = length-append line rest in
      let within = h.0 in (
        omega (arith, l, within),
        λ less big.
            ⊎_elim
            (λ (inside : i < length line).
            let same = get_or_append_left line rest 0 i inside in
            let b = h.1 inside (omega (arith, same, big)) in
            omega (arith, same, b))
            (λ (past : length line ≤ i).
            let at : length line ≡ i = omega (arith, within, past) in
            let seam = IsCharBoundary-at_seam (line ++ rest) line rest refl u in
            let there : IsCharBoundary (line ++ rest) i = subst (IsCharBoundary (line ++ rest)) at seam in
            there.1 less big)
            (cases_lt i (length line)),
      )

pub boundary_behind : (text : List ℕ) (start end : ℕ) → start ≤ end → IsCharBoundary text end
    → IsCharBoundary (drop start text) (end - start)
boundary_behind text start end h at =
    let l = length-drop start text in
    let within = at.0 in
    let same = get_or-drop start text (end - start) 0 in
    let there : start + (end - start) ≡ end = omega (arith, h) in
    let byte : get_or (drop start text) (end - start) 0 ≡ get_or text end 0 = same ∙ ap (λ n. get_or text n 0) there in (
      omega (arith, l, within),
      λ less big.
          let b = at.1 (omega (arith, l, less)) (omega (arith, byte, big)) in omega (arith, byte, b),
    )

-- ---- white space at the front

pub trimmed_is : (text run rest : List ℕ) → AreBlanks text run rest → rest ≡ trim_start text
unfolding trim_start
trimmed_is text run rest h = sym (encodes-chars rest h.cut.rest_utf8) ∙ ap encode_utf8_all h.skipped

pub start_boundary : (here line rest : List ℕ) (start end n : ℕ) → here ≡ line ++ rest → IsUtf8 rest
    → IsPlaced line start end → n ≡ start → IsCharBoundary here n
start_boundary here line rest start end n e u placed same =
    subst (IsCharBoundary here) (sym same)
    (subst (λ (text : List ℕ). IsCharBoundary text start) (sym e) (longer_boundary line rest start u placed.starts))

pub span_boundary : (here line rest after : List ℕ) (start end n m k : ℕ) → here ≡ line ++ rest → IsUtf8 rest
    → IsPlaced line start end → after ≡ drop n here → n ≡ start → m ≡ end → k ≡ start → IsCharBoundary after (m - k)
span_boundary here line rest after start end n m k e u placed at same_n same_m same_k =
    let there : IsCharBoundary here end =
    subst (λ (text : List ℕ). IsCharBoundary text end) (sym e) (longer_boundary line rest end u placed.ends) in
    let inside : IsCharBoundary (drop start here) (end - start) = boundary_behind here start end placed.ordered there in
    let moved : IsCharBoundary after (end - start) =
    subst (λ (text : List ℕ). IsCharBoundary text (end - start)) (sym (at ∙ ap (λ (i : ℕ). drop i here) same_n)) inside in
    subst (IsCharBoundary after) (ap (λ (i : ℕ). i - start) (sym same_m) ∙ ap (λ (i : ℕ). m - i) (sym same_k)) moved

-- what stands before the last comma
pub before_comma : (cursor : Cursor) (text : List ℕ) (i j : ℕ) → IsUtf8 (rest_of cursor) → HasCharAt 44 (rest_of cursor) i j
    → j ≤ length (rest_of cursor) → text ≡ take i (rest_of cursor) → IsAt cursor text
before_comma cursor text i j u at within e =
    let ends = at.ends in
    let byte = at.byte (lit< tt) in
    let edge : IsCharBoundary (rest_of cursor) i =
    IsCharBoundary-before_ascii (rest_of cursor) i (omega (arith, ends, within)) (omega (arith, byte)) in
    record {
      rest = drop i (rest_of cursor);
      whole = sym (take-append-drop i (rest_of cursor)) ∙ ap (λ (xs : List ℕ). xs ++ drop i (rest_of cursor)) (sym e);
      rest_utf8 = IsUtf8-drop (rest_of cursor) i u edge;
    }

module _ (start : Cursor) (text run list : List ℕ) (at : IsAt start text) (blanks : AreBlanks text run list) where
  parted : rest_of start ≡ run ++ (list ++ at.rest)
  parted =
      at.whole ∙ ap (λ (xs : List ℕ). xs ++ at.rest) blanks.cut.whole ∙ append_assoc run list at.rest

  -- white space stands at the place, and behind it the rest
  pub blanks_at : IsAt start run
  blanks_at = record {
    rest = list ++ at.rest;
    whole = parted;
    rest_utf8 = IsUtf8-append list at.rest blanks.cut.rest_utf8 at.rest_utf8;
  }

  pub list_at : (later : Cursor) → rest_of start ≡ run ++ rest_of later → IsAt later list
  list_at later e = record {
    rest = at.rest;
    whole = append_cancel_left run (rest_of later) (list ++ at.rest) (sym e ∙ parted);
    rest_utf8 = at.rest_utf8;
  }

-- ---- readings

module _ (vars : Variables) (kind : RefusalKind) where
  pub list_stops : (text later : List ℕ) (parts : List ℕ × List ℕ) → (text, later) ≡ parts
      → Tells vars kind (specifiers_of_text text) → Tells vars kind (listed parts)
  list_stops text later parts e h =
      subst (λ (p : List ℕ × List ℕ). Tells vars kind (listed p)) e
      (stops vars kind (specifiers_of_text text) (λ given. Ok (Specifiers given, later)) h)

  pub enclosed_stops : (cs text later : List ℕ) → Some (text, later) ≡ cut_around 41 cs
      → Tells vars kind (specifiers_of_text (trim_start text)) → Tells vars kind (enclosed_at cs)
  enclosed_stops cs text later e h =
      subst (λ (found : Option (List ℕ × List ℕ)). Tells vars kind (if_there found >>= enclosed)) e
      (stops vars kind (specifiers_of_text (trim_start text)) (λ given. Ok (Specifiers given, later)) h)

pub list_is : (text later : List ℕ) (parts : List ℕ × List ℕ) (given : List SpecifierRecord) → (text, later) ≡ parts
    → specifiers_of_text text ≡ Ok given → listed parts ≡ Ok (Specifiers given, later)
list_is text later parts given e h =
    ap listed (sym e)
    ∙ ap (λ (m : Result (List SpecifierRecord) Refused). m >>= λ given. Ok (Specifiers given, later)) h

pub enclosed_is : (cs text later : List ℕ) (given : List SpecifierRecord) → Some (text, later) ≡ cut_around 41 cs
    → specifiers_of_text (trim_start text) ≡ Ok given → enclosed_at cs ≡ Ok (Specifiers given, later)
enclosed_is cs text later given e h =
    ap (λ (found : Option (List ℕ × List ℕ)). if_there found >>= enclosed) (sym e)
    ∙ ap (λ (m : Result (List SpecifierRecord) Refused). m >>= λ given. Ok (Specifiers given, later)) h
