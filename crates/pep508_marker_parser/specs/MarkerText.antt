-- The text of a marker (PEP 508, "Grammar"): comparisons joined by `and` and `or`, some in brackets, with
-- white space between any two pieces. A piece is given by the characters from its beginning on and those
-- that follow it.
use Rattle.std.specs.Prelude.{◌≡◌, ◌⊎◌, ℕ, ◌<◌, ◌==◌, suc, zero, Bool, false, List, [], ◌∷◌, ◌++◌, length}
use Rattle.std.specs.Prelude.{All, IsTrue, codes, Some, Ok, encode_utf8_all}
use Rattle.std.specs.Char.{is_ascii_alphabetic, is_whitespace}
use Rattle.pep440_specifier.specs.SpecifierText.{AreSpaces}
use Rattle.pep508_marker.specs.declared.operators.MarkerOperator.{MarkerOperator}
use Rattle.pep508_marker.specs.declared.operators.MarkerOperator.TheVariants.{NotIn}
use Rattle.pep508_marker.specs.Operators.{marker_operator_of}
use Rattle.pep508_marker.specs.Values.{ValueRecord, Quoted, key_of_text}
use Rattle.pep508_comparison_parser.specs.Compared.{compared}
use Rattle.pep508_comparison_parser.specs.SideReading.{is_quote}
use Rattle.pep508_marker_parser.specs.MarkerReading.{Marker, Connective, And, Or, word_of, join_with}
use Rattle.pep508_marker_parser.specs.MarkerReading.{of_compared}
use Rattle.pep508_comparison_parser.specs.SideReading.{ends_key, ends_word, ends_signs}
use Rattle.pep508_error.specs.Cuts.{begins_by}

-- nothing follows, or a character that passes the test
abbrev pub IsBefore : (ℕ → Bool) → List ℕ → Type 0
IsBefore test rest = (rest ≡ []) ⊎ IsTrue (begins_by test rest)

-- white space, and then these characters
abbrev pub IsSpaced : List ℕ → List ℕ → Type 0
IsSpaced cs behind = (spaces : List ℕ) × (cs ≡ spaces ++ behind) × AreSpaces spaces

-- ---- sides and operators

-- a text between two quotes of one kind, and none of that kind in it
pub record IsQuotedText (cs : List ℕ) (value : ValueRecord) (rest : List ℕ) : Type 0 where
  pub quote : ℕ
  pub inside : List ℕ
  pub split : cs ≡ quote ∷ (inside ++ quote ∷ rest)
  pub quotes : IsTrue (is_quote quote)
  pub closed : All (λ c. (c == quote) ≡ false) inside
  pub encoded : value ≡ Quoted (encode_utf8_all inside)

-- a key, as far as no character ends it
pub record IsKeyText (cs : List ℕ) (value : ValueRecord) (rest : List ℕ) : Type 0 where
  pub written : List ℕ
  pub split : cs ≡ written ++ rest
  pub whole : All (λ c. ends_key c ≡ false) written
  pub ends : IsBefore ends_key rest
  pub is_key : key_of_text (encode_utf8_all written) ≡ Some value

abbrev pub IsSideText : List ℕ → ValueRecord → List ℕ → Type 0
IsSideText cs value rest = IsQuotedText cs value rest ⊎ IsKeyText cs value rest

-- an operator of letters, or one of signs, as far as it goes
pub record IsRunOperator (cs : List ℕ) (operator : MarkerOperator) (rest : List ℕ) : Type 0 where
  pub written : List ℕ
  pub split : cs ≡ written ++ rest
  pub run :
      (IsTrue (begins_by is_ascii_alphabetic written) × All (λ c. ends_word c ≡ false) written
      × IsBefore ends_word rest)
      ⊎ ((begins_by is_ascii_alphabetic written ≡ false) × All (λ c. ends_signs c ≡ false) written
      × IsBefore ends_signs rest)
  pub is_operator : marker_operator_of (encode_utf8_all written) ≡ Some operator

-- `not`, white space and `in`
pub record IsNotIn (cs : List ℕ) (operator : MarkerOperator) (rest : List ℕ) : Type 0 where
  pub spaces : List ℕ
  pub split : cs ≡ codes "not" ++ (spaces ++ (codes "in" ++ rest))
  pub are_spaces : AreSpaces spaces
  pub some : 0 < length spaces
  pub negated : operator ≡ NotIn

abbrev pub IsOperatorText : List ℕ → MarkerOperator → List ℕ → Type 0
IsOperatorText cs operator rest = IsRunOperator cs operator rest ⊎ IsNotIn cs operator rest

-- ---- comparisons and formulas

-- two sides with an operator between them, as a comparison or as one that is left out
pub record IsComparisonText (cs : List ℕ) (marker : Marker) (rest : List ℕ) : Type 0 where
  pub left : ValueRecord
  pub operator : MarkerOperator
  pub right : ValueRecord
  pub at_left : List ℕ
  pub behind_left : List ℕ
  pub at_operator : List ℕ
  pub behind_operator : List ℕ
  pub at_right : List ℕ
  pub spaced_left : IsSpaced cs at_left
  pub is_left : IsSideText at_left left behind_left
  pub spaced_operator : IsSpaced behind_left at_operator
  pub is_operator : IsOperatorText at_operator operator behind_operator
  pub spaced_right : IsSpaced behind_operator at_right
  pub is_right : IsSideText at_right right rest
  pub says : of_compared (compared left operator right, rest) ≡ Ok (marker, rest)

-- a piece in brackets
pub record IsEnclosed (piece : List ℕ → Marker → List ℕ → Type 0) (cs : List ℕ) (marker : Marker)
    (rest : List ℕ) : Type 0 where
  pub inside : List ℕ
  pub behind : List ℕ
  pub opens : IsSpaced cs (40 ∷ inside)
  pub is_piece : piece inside marker behind
  pub closes : IsSpaced behind (41 ∷ rest)

-- white space and the word as a whole run of characters that are not white space
pub record IsJoint (word : Connective) (cs behind : List ℕ) : Type 0 where
  pub spaced : IsSpaced cs (word_of word ++ behind)
  pub ends : IsBefore is_whitespace behind

-- one or more pieces, with the word between each two
abbrev pub AreJoined : Connective → (List ℕ → Marker → List ℕ → Type 0)
    → List ℕ → List Marker → List ℕ → Type 0
AreJoined word piece cs [] rest = ⊥
AreJoined word piece cs (marker ∷ []) rest = piece cs marker rest
AreJoined word piece cs (marker ∷ next ∷ markers) rest =
    (middle behind : List ℕ) × piece cs marker middle × IsJoint word middle behind
    × AreJoined word piece behind (next ∷ markers) rest

-- the joined formula of pieces, from the left
abbrev pub join_all : Connective → Marker → List Marker → Marker
join_all word marker [] = marker
join_all word marker (next ∷ markers) = join_all word (join_with word marker next) markers

pub record IsJoined (word : Connective) (piece : List ℕ → Marker → List ℕ → Type 0) (cs : List ℕ)
    (marker : Marker) (rest : List ℕ) : Type 0 where
  pub first : Marker
  pub others : List Marker
  pub are_joined : AreJoined word piece cs (first ∷ others) rest
  pub joined : marker ≡ join_all word first others

-- pieces joined by `or`, each of which is pieces joined by `and`
abbrev pub IsEither : (List ℕ → Marker → List ℕ → Type 0) → List ℕ → Marker → List ℕ → Type 0
IsEither piece = IsJoined Or (IsJoined And piece)

-- a formula whose brackets nest at most `depth` deep
abbrev pub IsFormulaText : ℕ → List ℕ → Marker → List ℕ → Type 0
IsFormulaText zero = IsEither IsComparisonText
IsFormulaText (suc depth) =
    IsEither (λ cs marker rest.
    IsComparisonText cs marker rest ⊎ IsEnclosed (IsFormulaText depth) cs marker rest)

-- the characters are those of the marker
abbrev pub IsMarkerText : List ℕ → Marker → Type 0
IsMarkerText cs marker = (rest : List ℕ) × IsFormulaText 256 cs marker rest × AreSpaces rest
