-- What a marker that is written at the end of a text asks is about pieces of that text.
use Rattle.std.proofs.Common.{◌≡◌, ◌⊎◌, ◌∙◌, ℕ, zero, suc, Bool, true, false, ◌&&◌, if◌then◌else◌, List, []}
use Rattle.std.proofs.Common.{◌∷◌, ◌++◌, Option, Some, None, option_map, Ok, Err, inl, inr, refl, ap, sym}
use Rattle.std.proofs.Common.{subst, append_assoc}
use Rattle.std.proofs.lemmas.Bool.{and_parts}
use Rattle.std.proofs.lemmas.Str.{encodes-append, encodes-chars, scalars-chars}
use Rattle.std.specs.List.{AllByRecursion}
use Rattle.std.specs.Prelude.{codes, encode_utf8_all}
use Rattle.std.specs.Str.{chars, IsUtf8}
use Rattle.version_ranges.proofs.Membership.{all_append}
use Rattle.pep508_marker.specs.declared.warnings.MarkerWarningKind.{MarkerWarningKind}
use Rattle.pep508_marker.specs.declared.operators.MarkerOperator.{MarkerOperator}
use Rattle.pep508_marker.specs.declared.keys.MarkerValueVersion.{MarkerValueVersion}
use Rattle.pep508_marker.specs.declared.keys.MarkerValueString.{MarkerValueString}
use Rattle.pep508_marker.specs.Expression.{ExpressionRecord}
use Rattle.pep508_marker.specs.Values.{ValueRecord, VersionKey, TextKey, ExtraKey, version_key_of}
use Rattle.pep508_marker.specs.Values.{text_key_of, other_key_of, version_key_or, key_of_text}
use Rattle.pep508_comparison_parser.specs.Compared.{compared}
use Rattle.pep508_comparison_parser.specs.SideReading.{AtEnd, Reading}
use Rattle.pep508_diagram.specs.Question.{Question}
use Rattle.pep508_expression.specs.Expressions.{has_points}
use Rattle.pep508_marker_parser.specs.Formula.{Says, LeftOut}
use Rattle.pep508_marker_parser.specs.MarkerReading.{Marker, Connective, And, Or, word_of, join_with, of_said}
use Rattle.pep508_marker_parser.specs.MarkerText.{IsSpaced, IsSideText, IsOperatorText, IsComparisonText}
use Rattle.pep508_marker_parser.specs.MarkerText.{IsEnclosed, AreJoined, join_all, IsJoined, IsEither}
use Rattle.pep508_marker_parser.specs.MarkerText.{IsFormulaText, IsMarkerText}
use Rattle.pep508_reading_back.specs.Lines.{IsPieceOf}
use Rattle.pep508_reading_back.specs.Told.{questions_of, questions_of_term, AsksOf}
use Rattle.pep508_reading_back.proofs.ToldCompared as compare
use lib.Utf8.{scalar, scalars}

-- ---- characters

-- each of the numbers is a character
abbrev AreScalars : List ℕ → Type 0
AreScalars cs = scalars cs ≡ true

record BothScalars (front rest : List ℕ) : Type 0 where
  before : AreScalars front
  after : AreScalars rest

both_scalars : (front rest : List ℕ) → AreScalars (front ++ rest) → BothScalars front rest
both_scalars [] rest are = record { before = refl; after = are }
both_scalars (c ∷ front) rest are =
    let parts = and_parts (scalar c) (scalars (front ++ rest)) are in
    let both = both_scalars front rest parts.1 in
    record { before = ap (λ b. b && scalars front) parts.0 ∙ both.before; after = both.after }

module _ (whole : List ℕ) (utf8 : IsUtf8 whole) where
  -- the text ends in these characters
  abbrev pub IsEnd : List ℕ → Type 0
  IsEnd cs = (front : List ℕ) × (chars whole ≡ front ++ cs)

  -- those behind a front
  pub behind_front : (cs front rest : List ℕ) → cs ≡ front ++ rest → IsEnd cs → IsEnd rest
  behind_front cs front rest split ends =
      (ends.0 ++ front, ends.1 ∙ ap (λ ds. ends.0 ++ ds) split ∙ sym (append_assoc ends.0 front rest))

  behind_one : (cs rest : List ℕ) (c : ℕ) → cs ≡ c ∷ rest → IsEnd cs → IsEnd rest
  behind_one cs rest c split ends = behind_front cs (c ∷ []) rest split ends

  behind_spaces : (cs behind : List ℕ) → IsSpaced cs behind → IsEnd cs → IsEnd behind
  behind_spaces cs behind spaced ends = behind_front cs spaced.0 behind spaced.1 ends

  piece_in : (inside rest : List ℕ) → IsEnd (inside ++ rest) → IsPieceOf whole (encode_utf8_all inside)
  piece_in inside rest ends =
      let are : AreScalars (ends.0 ++ (inside ++ rest)) = ap scalars (sym ends.1) ∙ scalars-chars whole utf8 in
      let first = both_scalars ends.0 (inside ++ rest) are in
      let second = both_scalars inside rest first.after in
      record {
        before = encode_utf8_all ends.0;
        after = encode_utf8_all rest;
        split = sym (encodes-chars whole utf8) ∙ ap encode_utf8_all ends.1
            ∙ encodes-append ends.0 (inside ++ rest)
            ∙ ap (λ bs. encode_utf8_all ends.0 ++ bs) (encodes-append inside rest);
        before_encoded = (ends.0, (first.before, refl));
        encoded = (inside, (second.before, refl));
      }

  -- the question is about pieces of the text
  abbrev pub Asks : Question → Type 0
  Asks = AsksOf (IsPieceOf whole)

  abbrev IsToldSaid : Option ExpressionRecord → Type 0
  IsToldSaid = compare.IsToldSaid (IsPieceOf whole)

  abbrev IsToldValue : ValueRecord → Type 0
  IsToldValue = compare.IsToldValue (IsPieceOf whole)

  -- ---- sides

  key_told : (key : Option MarkerValueVersion) (other : Option ValueRecord) (value : ValueRecord) →
      ((found : ValueRecord) → other ≡ Some found → IsToldValue found) →
      version_key_or other key ≡ Some value →
      IsToldValue value
  key_told (Some key) other value told e =
      (let same : VersionKey key ≡ value = cc in subst IsToldValue same tt)
  key_told None other value told e = told value e

  text_key_told : (key : Option MarkerValueString) (value : ValueRecord) →
      option_map TextKey key ≡ Some value →
      IsToldValue value
  text_key_told None value e = absurd (cc)
  text_key_told (Some key) value e = (let same : TextKey key ≡ value = cc in subst IsToldValue same tt)

  other_if : (extra : Bool) (text : List ℕ) (value : ValueRecord) →
      (if extra then Some ExtraKey else option_map TextKey (text_key_of text)) ≡ Some value → IsToldValue value
  other_if true text value e = (let same : ExtraKey ≡ value = cc in subst IsToldValue same tt)
  other_if false text value e = text_key_told (text_key_of text) value e

  keys_told : (text : List ℕ) (value : ValueRecord) → key_of_text text ≡ Some value → IsToldValue value
  keys_told text value e =
      key_told (version_key_of text) (other_key_of text) value (λ found f. other_if _ text found f) e

  record ToldSide (value : ValueRecord) (rest : List ℕ) : Type 0 where
    told : IsToldValue value
    after : IsEnd rest

  side_told : (cs : List ℕ) (value : ValueRecord) (rest : List ℕ) → IsSideText cs value rest → IsEnd cs →
      ToldSide value rest
  side_told cs value rest (inl is) ends =
      let inner = behind_one cs (is.inside ++ is.quote ∷ rest) is.quote is.split ends in
      let closed = behind_front (is.inside ++ is.quote ∷ rest) is.inside (is.quote ∷ rest) refl inner in
      record {
        told = subst IsToldValue (sym is.encoded) (piece_in is.inside (is.quote ∷ rest) inner);
        after = behind_one (is.quote ∷ rest) rest is.quote refl closed;
      }
  side_told cs value rest (inr is) ends =
      record { told = keys_told _ value is.is_key; after = behind_front cs is.written rest is.split ends }

  behind_operator_text : (cs : List ℕ) (operator : MarkerOperator) (rest : List ℕ) →
      IsOperatorText cs operator rest →
      IsEnd cs → IsEnd rest
  behind_operator_text cs operator rest (inl is) ends = behind_front cs is.written rest is.split ends
  behind_operator_text cs operator rest (inr is) ends =
      let word = behind_front cs (codes "not") (is.spaces ++ (codes "in" ++ rest)) is.split ends in
      let spaces = behind_front (is.spaces ++ (codes "in" ++ rest)) is.spaces (codes "in" ++ rest) refl word in
      behind_front (codes "in" ++ rest) (codes "in") rest refl spaces

  -- ---- comparisons

  abbrev pub IsToldMarker : Marker → Type 0
  IsToldMarker marker = AllByRecursion Asks (questions_of marker.formula)

  abbrev read_marker : Marker × List ℕ → Reading Marker
  read_marker found = Ok found

  same_marker : (made marker : Marker) (rest left : List ℕ) → read_marker (made, rest) ≡ Ok (marker, left) →
      made ≡ marker
  same_marker made marker rest left e =
      let pair : (made, rest) ≡ (marker, left) = cc in ap (λ (p : Marker × List ℕ). p.0) pair

  said_if : (term : ExpressionRecord) (warned : List MarkerWarningKind) (rest : List ℕ) (marker : Marker)
      (t : Bool) →
      AllByRecursion Asks (questions_of_term term) →
      (if t then read_marker (record { formula = Says term; warned = warned }, rest) else Err AtEnd)
      ≡ Ok (marker, rest) →
      IsToldMarker marker
  said_if term warned rest marker true told e =
      subst IsToldMarker
      (same_marker (record { formula = Says term; warned = warned }) marker rest rest e) told
  said_if term warned rest marker false told e = absurd (cc)

  said_told : (said : Option ExpressionRecord) (warned : List MarkerWarningKind) (rest : List ℕ)
      (marker : Marker) →
      IsToldSaid said → of_said said warned rest ≡ Ok (marker, rest) → IsToldMarker marker
  said_told None warned rest marker told e =
      subst IsToldMarker (same_marker (record { formula = LeftOut; warned = warned }) marker rest rest e) tt
  said_told (Some term) warned rest marker told e = said_if term warned rest marker (has_points term) told e

  -- what is told, and what stands behind it
  pub record ToldPiece (marker : Marker) (rest : List ℕ) : Type 0 where
    pub told : IsToldMarker marker
    pub after : IsEnd rest

  -- each piece of characters is told
  abbrev TellsPieces : (List ℕ → Marker → List ℕ → Type 0) → Type 0
  TellsPieces Piece =
      (cs : List ℕ) (marker : Marker) (rest : List ℕ) → Piece cs marker rest → IsEnd cs →
      ToldPiece marker rest

  comparison_told : TellsPieces IsComparisonText
  comparison_told cs marker rest is ends =
      let left = side_told is.at_left is.left is.behind_left is.is_left
      (behind_spaces cs is.at_left is.spaced_left ends) in
      let sign = behind_operator_text is.at_operator is.operator is.behind_operator is.is_operator
      (behind_spaces is.behind_left is.at_operator is.spaced_operator left.after) in
      let right = side_told is.at_right is.right rest is.is_right
      (behind_spaces is.behind_operator is.at_right is.spaced_right sign) in
      let found = compared is.left is.operator is.right in
      record {
        told = said_told found.said found.warned rest marker
            (compare.compared_told (IsPieceOf whole) is.left is.operator is.right left.told right.told) is.says;
        after = right.after;
      }

  -- ---- formulas

  joined_told : (word : Connective) (first next : Marker) → IsToldMarker first → IsToldMarker next →
      IsToldMarker (join_with word first next)
  joined_told And first next a b =
      all_append Asks (questions_of first.formula) (questions_of next.formula) a b
  joined_told Or first next a b =
      all_append Asks (questions_of first.formula) (questions_of next.formula) a b

  all_joined : (word : Connective) (first : Marker) (others : List Marker) → IsToldMarker first →
      AllByRecursion IsToldMarker others → IsToldMarker (join_all word first others)
  all_joined word first [] told all = told
  all_joined word first (next ∷ others) told all =
      all_joined word (join_with word first next) others (joined_told word first next told all.0) all.1

  module _ (Piece : List ℕ → Marker → List ℕ → Type 0) (tells : TellsPieces Piece) where
    record ToldPieces (markers : List Marker) (rest : List ℕ) : Type 0 where
      told : AllByRecursion IsToldMarker markers
      after : IsEnd rest

    pieces_told : (word : Connective) (cs : List ℕ) (markers : List Marker) (rest : List ℕ) →
        AreJoined word Piece cs markers rest → IsEnd cs → ToldPieces markers rest
    pieces_told word cs [] rest is ends = absurd is
    pieces_told word cs (marker ∷ []) rest is ends =
        let piece = tells cs marker rest is ends in record { told = (piece.told, tt); after = piece.after }
    pieces_told word cs (marker ∷ next ∷ markers) rest is ends =
        let piece = tells cs marker is.0 is.2 ends in
        let joint = behind_spaces is.0 (word_of word ++ is.1) is.3.spaced piece.after in
        let later = pieces_told word is.1 (next ∷ markers) rest is.4
        (behind_front (word_of word ++ is.1) (word_of word) is.1 refl joint) in
        record { told = (piece.told, later.told); after = later.after }

    chain_told : (word : Connective) → TellsPieces (IsJoined word Piece)
    chain_told word cs marker rest is ends =
        let pieces = pieces_told word cs (is.first ∷ is.others) rest is.are_joined ends in
        record {
          told = subst IsToldMarker (sym is.joined)
              (all_joined word is.first is.others pieces.told.0 pieces.told.1);
          after = pieces.after;
        }

  either_told : (Piece : List ℕ → Marker → List ℕ → Type 0) → TellsPieces Piece → TellsPieces (IsEither Piece)
  either_told Piece tells = chain_told (IsJoined And Piece) (chain_told Piece tells And) Or

  enclosed_told : (Piece : List ℕ → Marker → List ℕ → Type 0) → TellsPieces Piece →
      TellsPieces (IsEnclosed Piece)
  enclosed_told Piece tells cs marker rest is ends =
      let opened = behind_one (40 ∷ is.inside) is.inside 40 refl
      (behind_spaces cs (40 ∷ is.inside) is.opens ends) in
      let piece = tells is.inside marker is.behind is.is_piece opened in
      let closed = behind_spaces is.behind (41 ∷ rest) is.closes piece.after in
      record { told = piece.told; after = behind_one (41 ∷ rest) rest 41 refl closed }

  part_told : (Piece : List ℕ → Marker → List ℕ → Type 0) → TellsPieces Piece →
      TellsPieces (λ cs marker rest. IsComparisonText cs marker rest ⊎ IsEnclosed Piece cs marker rest)
  part_told Piece tells cs marker rest (inl is) ends = comparison_told cs marker rest is ends
  part_told Piece tells cs marker rest (inr is) ends = enclosed_told Piece tells cs marker rest is ends

  formula_told : (depth : ℕ) → TellsPieces (IsFormulaText depth)
  formula_told zero = either_told IsComparisonText comparison_told
  formula_told (suc depth) =
      either_told
      (λ cs marker rest. IsComparisonText cs marker rest ⊎ IsEnclosed (IsFormulaText depth) cs marker rest)
      (part_told (IsFormulaText depth) (formula_told depth))

  -- the questions of a marker with whose text the text ends
  pub written_told : (cs : List ℕ) (marker : Marker) → IsMarkerText cs marker → IsEnd cs →
      IsToldMarker marker
  written_told cs marker is ends = (formula_told 256 cs marker is.0 is.1 ends).told
