-- The reading of the sides of a comparison and of the operator between them (PEP 508, "Environment
-- Markers").
use Rattle.std.specs.Prelude.{ℕ, ◌==◌, ◌||◌, not, Bool, if◌then◌else◌, List, [], ◌∷◌, length, drop, codes}
use Rattle.std.specs.Prelude.{eqb}
use Rattle.std.specs.Prelude.{Option, Some, None, Result, Ok, Err, encode_utf8_all}
use Rattle.std.specs.Char.{is_whitespace, is_ascii_alphabetic}
use Rattle.std.specs.List.{starts_with}
use Rattle.std.specs.Str.{skip_leading_whitespace, bytes_eq}
use Rattle.pep508_error.specs.Cuts.{cut_before, cut_around}
use Rattle.pep508_error.specs.Steps.{◌>>=◌}
use Rattle.pep508_marker.specs.declared.operators.MarkerOperator.{MarkerOperator}
use Rattle.pep508_marker.specs.declared.operators.MarkerOperator.TheVariants.{NotIn}
use Rattle.pep508_marker.specs.Operators.{marker_operator_of}
use Rattle.pep508_marker.specs.Values.{ValueRecord, Quoted, key_of_text}
use Rattle.pep508_comparison_parser.specs.Compared.{Compared, compared}

-- why a text is not a marker: by the grammar; since a number of a comparison can't be raised; since
-- brackets nest too deep
pub data Refused : Type 0 where
  Malformed : Refused
  AtEnd : Refused
  TooDeep : Refused

-- what is read at the front of some characters, and the characters after it
abbrev pub Reading : Type 0 → Type 0
Reading A = Result (A × List ℕ) Refused

-- ---- sides and operators

-- a character that ends a key: white space, or one of `>`, `=`, `<`, `!`, `~`, `)`
abbrev pub ends_key : ℕ → Bool
ends_key c = is_whitespace c || c == 62 || c == 61 || c == 60 || c == 33 || c == 126 || c == 41

-- a character that ends an operator of letters: white space or a quote
abbrev pub ends_word : ℕ → Bool
ends_word c = is_whitespace c || c == 39 || c == 34

-- a character that ends an operator of signs: none of `<`, `=`, `>`, `~`, `!`
abbrev pub ends_signs : ℕ → Bool
ends_signs c = not (c == 60 || c == 61 || c == 62 || c == 126 || c == 33)

abbrev pub if_side : Option ValueRecord → List ℕ → Reading ValueRecord
if_side None rest = Err Malformed
if_side (Some side) rest = Ok (side, rest)

abbrev pub is_quote : ℕ → Bool
is_quote c = c == 39 || c == 34

abbrev pub if_quoted : Option (List ℕ × List ℕ) → Reading ValueRecord
if_quoted None = Err Malformed
if_quoted (Some parts) = Ok (Quoted parts.0, parts.1)

-- a text up to a quote of its own kind
abbrev pub quoted_at : ℕ → List ℕ → Reading ValueRecord
quoted_at quote cs = if_quoted (cut_around quote cs)

abbrev pub key_at : List ℕ × List ℕ → Reading ValueRecord
key_at parts = if_side (key_of_text (encode_utf8_all parts.0)) parts.1

-- one side of a comparison: a quoted text or a key
abbrev pub side_at : List ℕ → Reading ValueRecord
side_at [] = Err Malformed
side_at (c ∷ cs) = if is_quote c then quoted_at c cs else key_at (cut_before ends_key (c ∷ cs))

-- `in`, after `not` and white space
abbrev pub in_at : List ℕ → Reading MarkerOperator
in_at cs = if starts_with eqb cs (codes "in") then Ok (NotIn, drop 2 cs) else Err Malformed

abbrev pub behind_not : List ℕ → Reading MarkerOperator
behind_not [] = Err Malformed
behind_not (c ∷ cs) = if is_whitespace c then in_at (skip_leading_whitespace cs) else Err Malformed

abbrev pub if_operator : Option MarkerOperator → List ℕ → Reading MarkerOperator
if_operator None rest = Err Malformed
if_operator (Some operator) rest = Ok (operator, rest)

abbrev pub operator_in : List ℕ × List ℕ → Reading MarkerOperator
operator_in parts =
    if bytes_eq (encode_utf8_all parts.0) (codes "not") then behind_not parts.1
    else if_operator (marker_operator_of (encode_utf8_all parts.0)) parts.1

-- an operator: letters up to white space or a quote, or signs
abbrev pub operator_at : List ℕ → Reading MarkerOperator
operator_at [] = Err Malformed
operator_at (c ∷ cs) =
    if is_ascii_alphabetic c then operator_in (cut_before ends_word (c ∷ cs))
    else operator_in (cut_before ends_signs (c ∷ cs))

-- ---- two sides and the operator between them

abbrev pub behind_operator : ValueRecord → MarkerOperator × List ℕ → Reading Compared
behind_operator left found =
    side_at (skip_leading_whitespace found.1) >>= λ right. Ok (compared left found.0 right.0, right.1)

abbrev pub behind_side : ValueRecord × List ℕ → Reading Compared
behind_side left = operator_at (skip_leading_whitespace left.1) >>= behind_operator left.0

-- the comparison at the front
unfoldable pub compared_at : List ℕ → Reading Compared
compared_at cs = side_at cs >>= behind_side

abbrev pub if_end : {A : Type 0} → A × List ℕ → Result A Refused
if_end found = if length (skip_leading_whitespace found.1) == 0 then Ok found.0 else Err Malformed

-- the comparison that some characters are
unfoldable pub expression_at : List ℕ → Result Compared Refused
expression_at cs = compared_at (skip_leading_whitespace cs) >>= if_end
