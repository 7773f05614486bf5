-- The texts of the rows of packages in their cases, in a format.
use Rattle.std.specs.Prelude.{◌≡◌, ◌<◌, ℕ, Bool, true, false, List, [], ◌∷◌, ◌++◌, codes, length, get_or}
use Rattle.std.specs.Prelude.{Option, Some, None, if◌then◌else◌}
use Rattle.std.specs.Option.{option_map_or}
use Rattle.std.specs.Borrow.{Bor}
use Rattle.pep440_version.specs.Record.{VersionRecord}
use Rattle.pep508_diagram.specs.Question.{Valuation}
use Rattle.pep508_tree.specs.Meaning.{NodeRecord}
use Rattle.reqtable_candidates.specs.declared.candidates.Candidate.{Candidate}
use Rattle.reqtable_answer.specs.Admission.{Admits, AnswersBy}
use Rattle.pep508_requirement_text.specs.FrontReading.{Front}
use Rattle.reqtable_answer.specs.Answer.{RowRecord, IsAnswer}
use Rattle.reqtable_table.specs.Answers.{IsPlaceIn, IsRowFor, IsRowIf, AreRowsFor}
use Rattle.reqtable_table.specs.Kept.{KeptPackage}
use Rattle.reqs_json.specs.declared.format.Format.{Format}
use Rattle.reqs_json.specs.Rows.{row_in, between, rows_in}

-- the text of a package's row under each valuation under which its active case is the one at a place
abbrev pub IsTextIn : Format → Admits → List NodeRecord → List Candidate → KeptPackage → ℕ → List ℕ → Type 0
IsTextIn format admits nodes candidates kept place text =
    (v : Valuation) → IsPlaceIn nodes v kept place →
    (row : RowRecord) × IsRowFor admits nodes v candidates kept row × (text ≡ row_in format candidates row)

-- one of these pieces is the text of the row, if versions are admitted by a closure with these results
pub record IsPiece (format : Format) (returns : Bor VersionRecord → Bool → Bool → Type 0)
    (nodes : List NodeRecord) (candidates : List Candidate) (texts : List (List ℕ)) (kept : KeptPackage)
    (place piece : ℕ) : Type 0 where
  pub within : piece < length texts
  pub text : (admits : Admits) → AnswersBy returns admits →
      IsTextIn format admits nodes candidates kept place (get_or texts piece [])

-- the cached pieces of a package are right
abbrev pub IsKnown : Format → (Bor VersionRecord → Bool → Bool → Type 0) → List NodeRecord → List Candidate
    → List (List ℕ) → KeptPackage → List (Option ℕ) → Type 0
IsKnown format returns nodes candidates texts kept own =
    (place piece : ℕ) → get_or own place None ≡ Some piece →
    IsPiece format returns nodes candidates texts kept place piece

-- the cached pieces of each package of a table are right
abbrev pub AreKnown : Format → (Bor VersionRecord → Bool → Bool → Type 0) → List NodeRecord → List Candidate
    → List (List ℕ) → List KeptPackage → List (List (Option ℕ)) → Type 0
AreKnown format returns nodes candidates texts table known =
    (index : ℕ) (other : KeptPackage) → index < length table →
    IsKnown format returns nodes candidates texts (get_or table index other) (get_or known index [])

-- pieces were added, and none was changed
abbrev pub Grow : List (List ℕ) → List (List ℕ) → Type 0
Grow old new = (more : List (List ℕ)) × (new ≡ old ++ more)

-- the first piece is what separates rows
abbrev pub HasSeparator : List (List ℕ) → Type 0
HasSeparator texts = (rest : List (List ℕ)) × (texts ≡ codes "," ∷ rest)

-- what is appended before the row of a package whose active case is at a place, if rows come before it
abbrev pub separation : Format → Bool → Option ℕ → List ℕ
separation format later None = []
separation format later (Some place) = if later then between format else []

-- whether rows come before the package after it
abbrev pub is_later : Bool → Option ℕ → Bool
is_later later None = later
is_later later (Some place) = true

-- a package's row, if it has one, was appended to a text
abbrev pub PutsRow : Format → Admits → List NodeRecord → Valuation → List Candidate → KeptPackage → List ℕ
    → List ℕ → Type 0
PutsRow format admits nodes v candidates kept old new =
    (row : Option RowRecord) × IsRowIf admits nodes v candidates kept row
    × (new ≡ old ++ option_map_or (row_in format candidates) row [])

-- the rows of packages, one for each of which a line applies, were appended to a text
abbrev pub PutsRows : Format → Admits → List NodeRecord → Valuation → List Candidate → List KeptPackage
    → List ℕ → List ℕ → Type 0
PutsRows format admits nodes v candidates table old new =
    (rows : List RowRecord) × AreRowsFor admits nodes v candidates table rows
    × (new ≡ old ++ rows_in format candidates false rows)

-- the rows of the answer were appended to a text
abbrev pub PutsAnswer : Format → Admits → List Front → List Candidate → List ℕ → List ℕ → Type 0
PutsAnswer format admits asks candidates old new =
    (rows : List RowRecord) × IsAnswer admits asks candidates rows
    × (new ≡ old ++ rows_in format candidates false rows)
