-- The answers of a table: the rows of the packages of which a line applies, and how many specifiers are
-- tested for them.
use Rattle.std.specs.Prelude.{◌≡◌, ◌<◌, ◌+◌, ◌&&◌, ℕ, Bool, true, false, List, [], ◌∷◌, map, filter, length}
use Rattle.std.specs.Prelude.{get_or, Option, Some, None, if◌then◌else◌}
use Rattle.std.specs.List.{list_any, enumerate_from, AllZip}
use Rattle.pep508_diagram.specs.Question.{Valuation}
use Rattle.pep508_tree.specs.Meaning.{NodeRecord, holds}
use Rattle.pep508_requirement_text.specs.FrontReading.{Front}
use Rattle.pep508_cases.specs.Cases.{Marks}
use Rattle.reqtable_candidates.specs.declared.candidates.Candidate.{Candidate}
use Rattle.reqtable_answer.specs.Admission.{Admits}
use Rattle.reqtable_answer.specs.Answer.{RowRecord, IsRowOf}
use Rattle.reqtable_answer.specs.Asks.{is_candidate}
use Rattle.pep508_cases.specs.Sets.{marked}
use Rattle.reqtable_cases.specs.Usable.{is_usable, members_asked}
use Rattle.reqtable_search.specs.Told.{is_plain}
use Rattle.reqtable_table.specs.Kept.{KeptLine, KeptCase, KeptPackage, kept_front}

-- which of some kept lines apply, and what these require
abbrev pub kept_marks : List NodeRecord → Valuation → List KeptLine → Marks
kept_marks nodes v lines = map (λ line. holds nodes line.marker v) lines

abbrev pub kept_asked : List NodeRecord → Valuation → List KeptLine → List Front
kept_asked nodes v lines = map kept_front (marked (kept_marks nodes v lines) lines)

-- some line of the package applies
abbrev pub is_asked : List NodeRecord → Valuation → KeptPackage → Bool
is_asked nodes v kept = list_any (λ line. holds nodes line.marker v) kept.lines

-- a package's candidates with their places in the list
abbrev pub own_candidates : List Candidate → List ℕ → List (ℕ × Candidate)
own_candidates candidates name = filter (is_candidate name) (enumerate_from 0 candidates)

-- a row is that of a package
pub record IsRowFor (admits : Admits) (nodes : List NodeRecord) (v : Valuation) (candidates : List Candidate)
    (kept : KeptPackage) (row : RowRecord) : Type 0 where
  pub named : row.name ≡ kept.name
  pub its : IsRowOf admits (kept_asked nodes v kept.lines) (own_candidates candidates kept.name) row

-- a row is that of a package if a line of it applies, and there is none otherwise
abbrev pub IsRowIf : Admits → List NodeRecord → Valuation → List Candidate → KeptPackage → Option RowRecord
    → Type 0
IsRowIf admits nodes v candidates kept None = is_asked nodes v kept ≡ false
IsRowIf admits nodes v candidates kept (Some row) =
    (is_asked nodes v kept ≡ true) × IsRowFor admits nodes v candidates kept row

-- the place of the case whose lines are those that apply, of which there are some
pub record IsPlaceIn (nodes : List NodeRecord) (v : Valuation) (kept : KeptPackage) (place : ℕ) : Type 0 where
  pub asked : is_asked nodes v kept ≡ true
  pub within : place < length kept.cases
  pub numbers : (other : KeptCase) → (get_or kept.cases place other).numbers
      ≡ map (λ line. line.number) (marked (kept_marks nodes v kept.lines) kept.lines)

-- a package's active case is the one at a place, or there is none since no line of it applies
abbrev pub LiesIn : List NodeRecord → Valuation → KeptPackage → Option ℕ → Type 0
LiesIn nodes v kept None = is_asked nodes v kept ≡ false
LiesIn nodes v kept (Some place) = IsPlaceIn nodes v kept place

-- a row for each package of which a line applies
abbrev pub AreRowsFor : Admits → List NodeRecord → Valuation → List Candidate → List KeptPackage
    → List RowRecord → Type 0
AreRowsFor admits nodes v candidates table rows =
    AllZip (IsRowFor admits nodes v candidates) (filter (is_asked nodes v) table) rows

-- ---- how many specifiers are tested

-- for one candidate: none if it is plain and the requirements are usable, otherwise at most all specifiers
abbrev pub tests_for : List Front → ℕ × Candidate → ℕ
tests_for asks c = if is_usable asks && is_plain c.1.version then 0 else length (members_asked asks)

abbrev pub most_tests : List Front → List (ℕ × Candidate) → ℕ
most_tests asks [] = 0
most_tests asks (c ∷ candidates) = tests_for asks c + most_tests asks candidates

-- for a package under a valuation, and for all packages of a table
abbrev pub most_tests_in : List NodeRecord → Valuation → List Candidate → KeptPackage → ℕ
most_tests_in nodes v candidates kept =
    most_tests (kept_asked nodes v kept.lines) (own_candidates candidates kept.name)

abbrev pub most_tests_of : List NodeRecord → Valuation → List Candidate → List KeptPackage → ℕ
most_tests_of nodes v candidates [] = 0
most_tests_of nodes v candidates (kept ∷ table) =
    most_tests_in nodes v candidates kept + most_tests_of nodes v candidates table

-- ---- what doesn't change

-- a line is another one, apart from the number of its tests
pub record SameLine (line before : KeptLine) : Type 0 where
  pub number : line.number ≡ before.number
  pub extras : line.extras ≡ before.extras
  pub marker : line.marker ≡ before.marker
  pub url : line.url ≡ before.url
  pub bounded : line.bounded ≡ before.bounded
  pub members : line.specifiers.members ≡ before.specifiers.members

pub record SamePackage (kept before : KeptPackage) : Type 0 where
  pub name : kept.name ≡ before.name
  pub cases : kept.cases ≡ before.cases
  pub lines : AllZip SameLine kept.lines before.lines
