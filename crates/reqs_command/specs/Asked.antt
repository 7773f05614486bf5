-- The command that the words of the command line name.
use Rattle.std.specs.Prelude.{◌≡◌, ◌≢◌, ◌<◌, ◌-◌, ◌^◌, ◌&&◌, ℕ, Bool, true, false, List, [], ◌∷◌, codes, map}
use Rattle.std.specs.Prelude.{Option, Some, None, is_none, unwrap_or, if◌then◌else◌, Result}
use Rattle.std.specs.Str.Parse.{IsNumeral, digits_value, without_leading_plus}
use Rattle.clap.specs.Words.{first_value, one_text}
use Rattle.clap.specs.declared.parser.matches.Found.{Found}
use Rattle.pep508_url.specs.UrlTexts.{Verbatim}
use Rattle.pep508_url.specs.declared.url_error.VerbatimUrlError.{VerbatimUrlError}
use Rattle.pep508_error.specs.declared.error.Pep508Error.{Pep508Error}
use Rattle.pep508_marker.specs.Expression.{ExpressionRecord}
use Rattle.pep508_formula.specs.Postfix.{Part}
use Rattle.reqs_io_faults.specs.declared.bounds.Bounds.{Bounds}
use Rattle.reqs_json.specs.declared.format.Format.{Format}
use Rattle.reqs_json.specs.declared.format.Format.TheVariants.{Text, Json}
use Rattle.reqs_assuming.specs.Assumptions.{ReadsAssumption}
use Rattle.reqs_command.specs.declared.request.Asked.{Asked}
use Rattle.reqs_command.specs.declared.request.Asked.TheVariants.{Check, Matrix, Same, Covers}
use Rattle.reqs_command.specs.declared.request.Asked.TheVariants.{Conflicts, Normal}

-- the word that names a command
abbrev pub name_of : Asked → List ℕ
name_of Check = codes "check"
name_of (Matrix limit) = codes "matrix"
name_of (Same limit) = codes "same"
name_of (Covers limit) = codes "covers"
name_of (Conflicts limit) = codes "conflicts"
name_of Normal = codes "normal"

-- the names of its inputs, in the order of the command line
abbrev pub input_words : Asked → List (List ℕ)
input_words Check = codes "REQS" ∷ codes "ENV" ∷ codes "CANDIDATES" ∷ []
input_words (Matrix limit) = codes "REQS" ∷ codes "ENVS" ∷ codes "CANDIDATES" ∷ []
input_words (Same limit) = codes "LEFT" ∷ codes "RIGHT" ∷ []
input_words (Covers limit) = codes "LOCK" ∷ codes "REQS" ∷ []
input_words (Conflicts limit) = codes "REQS" ∷ []
input_words Normal = codes "REQS" ∷ []

-- its limit, if it has one
abbrev pub limit_in : Asked → Option ℕ
limit_in Check = None
limit_in (Matrix limit) = Some limit
limit_in (Same limit) = Some limit
limit_in (Covers limit) = Some limit
limit_in (Conflicts limit) = Some limit
limit_in Normal = None

-- the value of an argument, or an empty text if it has none
abbrev pub text_at : Option (List ℕ) → List ℕ
text_at (Some text) = text
text_at None = []

-- the paths of its inputs
abbrev pub paths_in : Asked → Found → List (List ℕ)
paths_in asked found = map (λ word. text_at (first_value found word)) (input_words asked)

-- a text is a limit, in decimal digits
abbrev pub IsLimitText : List ℕ → ℕ → Type 0
IsLimitText text limit =
    (IsNumeral 10 (without_leading_plus text) × (digits_value 10 (without_leading_plus text) < 2 ^ 64))
    × (limit ≡ digits_value 10 (without_leading_plus text))

-- the limit in a text, if there is one
abbrev pub LimitIs : Option (List ℕ) → Option ℕ → Type 0
LimitIs None result = result ≡ None
LimitIs (Some text) (Some limit) = IsLimitText text limit
LimitIs (Some text) None = (limit : ℕ) → IsLimitText text limit → ⊥

-- the limit is the one in the words; a command without a limit has none
abbrev pub IsToldLimit : Found → Option ℕ → Type 0
IsToldLimit found None = Unit {0}
IsToldLimit found (Some limit) = LimitIs (one_text found (codes "limit")) (Some limit)

-- a name and words are those of a command
abbrev pub IsAsked : List ℕ → Found → Asked → Type 0
IsAsked name found asked = (name ≡ name_of asked) × IsToldLimit found (limit_in asked)

-- the command that is named, or none
abbrev pub AsksFor : List ℕ → Found → Option Asked → Type 0
AsksFor name found (Some asked) = IsAsked name found asked
AsksFor name found None = (asked : Asked) → IsAsked name found asked → ⊥

-- the command with this name and limit
abbrev pub NamesLimited : List ℕ → ℕ → Option Asked → Type 0
NamesLimited name limit (Some asked) = (name ≡ name_of asked) × (limit_in asked ≡ Some limit)
NamesLimited name limit None =
    (name ≢ codes "matrix") × (name ≢ codes "same") × (name ≢ codes "covers") × (name ≢ codes "conflicts")

-- a word names a format: `json` for JSON, any other word for text
abbrev pub NamesFormat : List ℕ → Format → Type 0
NamesFormat word Json = word ≡ codes "json"
NamesFormat word Text = word ≢ codes "json"

-- the format is the one in the words
abbrev pub IsToldFormat : Found → Format → Type 0
IsToldFormat found format = NamesFormat (text_at (first_value found (codes "format"))) format

-- the words set a flag, or not
pub record IsToldFlag (name : List ℕ) (found : Found) (flag : Bool) : Type 0 where
  pub unnamed : one_text found name ≡ None → flag ≡ false
  pub named : one_text found name ≡ Some (codes "true") → flag ≡ true
  pub other : one_text found name ≡ Some (codes "false") → flag ≡ false

-- whether the words have `--strict`
abbrev pub IsToldStrict : Found → Bool → Type 0
IsToldStrict = IsToldFlag (codes "strict")

-- ---- bounds

-- the greatest number of 64 bits
abbrev pub greatest : ℕ
greatest = 2 ^ 64 - 1

abbrev pub greatest_bounds : Bounds
greatest_bounds = record { nodes = greatest; clauses = greatest; cases = greatest }

-- bounds of three numbers, of which those left out are the greatest; none if all are left out
abbrev pub bounds_from : Option ℕ → Option ℕ → Option ℕ → Option Bounds
bounds_from nodes clauses cases =
    if is_none nodes && is_none clauses && is_none cases then None
    else Some (record {
      nodes = unwrap_or nodes greatest;
      clauses = unwrap_or clauses greatest;
      cases = unwrap_or cases greatest;
    })

-- bounds, or the greatest
abbrev pub bounds_or_greatest : Option Bounds → Bounds
bounds_or_greatest bounds = unwrap_or bounds greatest_bounds

-- the bounds are those in the words
pub record AreToldBounds (found : Found) (result : Option Bounds) : Type 0 where
  pub nodes : Option ℕ
  pub clauses : Option ℕ
  pub cases : Option ℕ
  pub nodes_told : LimitIs (one_text found (codes "nodes")) nodes
  pub clauses_told : LimitIs (one_text found (codes "clauses")) clauses
  pub cases_told : LimitIs (one_text found (codes "cases")) cases
  pub is : result ≡ bounds_from nodes clauses cases

-- ---- the assumption

-- the condition is that of all that the words assume, none if they assume nothing; or this is what is wrong with
-- it
pub record IsToldCondition (found : Found)
    (result : Result (Option (List (Part ExpressionRecord))) (Pep508Error Verbatim VerbatimUrlError))
    : Type 0 where
  pub real : Bool
  pub real_told : IsToldFlag (codes "assume-real") found real
  pub reads : ReadsAssumption (first_value found (codes "assume")) (first_value found (codes "python")) real
      result
