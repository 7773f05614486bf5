-- The rows of an answer as JSON values, and their text in each format.
use Rattle.std.specs.Prelude.{◌≡◌, ℕ, suc, List, [], ◌∷◌, ◌++◌, Bool, true, codes, if◌then◌else◌}
use Rattle.std.specs.Option.{option_map_or}
use Rattle.std.specs.List.{slice_get}
use Rattle.pep440_version.specs.Print.{version_text}
use Rattle.serde_json.specs.Data.{Data, null, string, array, object, no_members, member}
use Rattle.serde_json.specs.Data.{Items, no_items, item}
use Rattle.reqtable_candidates.specs.declared.candidates.Candidate.{Candidate}
use Rattle.reqtable_answer.specs.declared.answer.Outcome.{Outcome}
use Rattle.reqtable_answer.specs.declared.answer.Outcome.TheVariants.{Taken, Nothing, Direct}
use Rattle.pep508_requirement_text.specs.FrontReading.{Front}
use Rattle.reqtable_answer.specs.Answer.{Admits, RowRecord, IsAnswer, row_text, answer_text}
use Rattle.reqs_json.specs.declared.format.Format.{Format}
use Rattle.reqs_json.specs.declared.format.Format.TheVariants.{Text, Json}
use Rattle.reqs_json.specs.Lines.{array_of, number_of, line_of, value_text}

-- the outcome of a package, in one word
abbrev pub outcome_word : Outcome → List ℕ
outcome_word (Taken place) = codes "version"
outcome_word Nothing = codes "none"
outcome_word Direct = codes "direct"

-- the selected version, or null if there is none
abbrev pub version_value : List Candidate → Outcome → Data
version_value candidates (Taken place) =
    option_map_or (λ c. string (version_text c.version)) (slice_get candidates place) null
version_value candidates Nothing = null
version_value candidates Direct = null

-- a row, as an object
abbrev pub package_value : List Candidate → RowRecord → Data
package_value candidates row = object (
    member (codes "extras") (array_of string row.extras) (
    member (codes "name") (string row.name) (
    member (codes "outcome") (string (outcome_word row.outcome)) (
    member (codes "version") (version_value candidates row.outcome) no_members))))

-- rows, as an array
abbrev pub packages_value : List Candidate → List RowRecord → Data
packages_value candidates rows = array_of (package_value candidates) rows

-- the rows of an answer, as an object
abbrev pub answer_value : List Candidate → List RowRecord → Data
answer_value candidates rows = object (member (codes "packages") (packages_value candidates rows) no_members)

-- the text of rows in a format
abbrev pub rows_text : Format → List Candidate → List RowRecord → List ℕ
rows_text Text candidates rows = answer_text candidates rows
rows_text Json candidates rows = line_of (answer_value candidates rows)

-- the text of the answer in a format
abbrev pub IsAnswerIn : Format → Admits → List Front → List Candidate → List ℕ → Type 0
IsAnswerIn format admits asks candidates text =
    (rows : List RowRecord) × IsAnswer admits asks candidates rows × (text ≡ rows_text format candidates rows)

-- ---- row by row

-- the text of a row in a format: its line, or its object
abbrev pub row_in : Format → List Candidate → RowRecord → List ℕ
row_in Text candidates row = row_text candidates row
row_in Json candidates row = value_text (package_value candidates row)

-- what separates two rows
abbrev pub between : Format → List ℕ
between Text = []
between Json = codes ","

-- the rows of an environment one after another, separated, also from what comes before if `later`
abbrev pub rows_in : Format → List Candidate → Bool → List RowRecord → List ℕ
rows_in format candidates later [] = []
rows_in format candidates later (row ∷ rows) =
    (if later then between format else [])
    ++ (row_in format candidates row ++ rows_in format candidates true rows)

-- ---- for environments

-- the number of an environment and the rows of its answer, as an object
abbrev pub environment_value : List Candidate → ℕ → List RowRecord → Data
environment_value candidates number rows = object (
    member (codes "number") (number_of number) (
    member (codes "packages") (packages_value candidates rows) no_members))

-- the objects of environments that are numbered from this number on
abbrev pub environment_values : List Candidate → ℕ → List (List RowRecord) → Items
environment_values candidates number [] = no_items
environment_values candidates number (rows ∷ answers) =
    item (environment_value candidates number rows) (environment_values candidates (suc number) answers)

-- the rows of all environments' answers, as an object
abbrev pub answers_value : List Candidate → List (List RowRecord) → Data
answers_value candidates answers =
    object (member (codes "environments") (array (environment_values candidates 1 answers)) no_members)
