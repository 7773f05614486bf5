-- The answer to requirements on packages, defined over whole lists: which packages have a row, what the row
-- has, and the rows' text.
use Rattle.std.specs.Prelude.{◌≡◌, ℕ, not, List, [], ◌∷◌, ◌++◌, map, filter, find, codes}
use Rattle.std.specs.Prelude.{Option, Some, None, option_map, if◌then◌else◌}
use Rattle.std.specs.Option.{option_map_or}
use Rattle.std.specs.List.{list_any, list_all, enumerate_from, flat_map, join_with_byte, slice_get}
use Rattle.std.specs.List.{AllByRecursion}
use Rattle.std.specs.List.Sorted.{IsStrictlySortedBy}
use Rattle.std.specs.Ordering.{nat_cmp, is_gt}
use Rattle.std.specs.Cmp.Lexicographic.{slice_cmp}
use Rattle.std.specs.Str.{bytes_eq}
use Rattle.std.specs.declared.cmp.Ordering.{Ordering}
use Rattle.pep440_version.specs.Order.{version_cmp}
use Rattle.pep440_version.specs.Print.{version_text}
use Rattle.pep508_requirement_text.specs.FrontReading.{Front}
use Rattle.reqtable_candidates.specs.declared.candidates.Candidate.{Candidate}
use Rattle.reqtable_answer.specs.declared.answer.Outcome.{Outcome}
use Rattle.reqtable_answer.specs.declared.answer.Outcome.TheVariants.{Taken, Nothing, Direct}
pub use Rattle.reqtable_answer.specs.Admission.{Admits}
use Rattle.reqtable_answer.specs.Asks.{is_of, has_extra, has_url, is_candidate, may_be_taken}

-- ---- what is selected for a package

-- the first among the greatest elements, or none for an empty list
abbrev pub first_greatest : {K : Type 0} → (K → K → Ordering) → List K → Option K
first_greatest cmp xs = find (λ x. list_all (λ y. not (is_gt (cmp y x))) xs) xs

-- the order of candidates with their places, by their versions
abbrev pub by_version : ℕ × Candidate → ℕ × Candidate → Ordering
by_version a b = version_cmp a.1.version b.1.version

abbrev pub chosen : Option ℕ → Outcome
chosen None = Nothing
chosen (Some place) = Taken place

-- the outcome of a package for the requirements on it and its candidates: the first among the highest
-- candidates that are accepted
abbrev pub outcome_of : Admits → List Front → List (ℕ × Candidate) → Outcome
outcome_of admits asks candidates =
    if list_any has_url asks then Direct
    else chosen (option_map (λ found. found.0)
    (first_greatest by_version (filter (may_be_taken admits asks) candidates)))

-- ---- rows

-- a package, the extras that are required, and its outcome
pub record RowRecord : Type 0 where
  pub name : List ℕ
  pub extras : List (List ℕ)
  pub outcome : Outcome

-- a row is that of a package with these requirements and candidates: its extras are those that any of the
-- requirements has, each once and in the order of their bytes
pub record IsRowOf (admits : Admits) (asks : List Front) (candidates : List (ℕ × Candidate))
    (row : RowRecord) : Type 0 where
  pub extras_rise : IsStrictlySortedBy (slice_cmp nat_cmp) row.extras
  pub extras_are : (extra : List ℕ) → list_any (bytes_eq extra) row.extras ≡ list_any (has_extra extra) asks
  pub outcome : row.outcome ≡ outcome_of admits asks candidates

-- a row is that of its package, by those of all requirements and candidates that are of the package, with the
-- candidates' places in the list
abbrev pub IsRow : Admits → List Front → List Candidate → RowRecord → Type 0
IsRow admits asks candidates row =
    IsRowOf admits (filter (is_of row.name) asks)
    (filter (is_candidate row.name) (enumerate_from 0 candidates)) row

-- rows are the answer: one for each required package, in the order of the bytes of their names
pub record IsAnswer (admits : Admits) (asks : List Front) (candidates : List Candidate)
    (rows : List RowRecord) : Type 0 where
  pub rising : IsStrictlySortedBy (slice_cmp nat_cmp) (map (λ row. row.name) rows)
  pub asked : (name : List ℕ) →
      list_any (bytes_eq name) (map (λ row. row.name) rows) ≡ list_any (is_of name) asks
  pub each_row : AllByRecursion (IsRow admits asks candidates) rows

-- ---- text

-- what follows a package's name and extras in its line
abbrev pub outcome_text : List Candidate → Outcome → List ℕ
outcome_text candidates (Taken place) =
    option_map_or (λ c. version_text c.version) (slice_get candidates place) []
outcome_text candidates Nothing = codes "none"
outcome_text candidates Direct = codes "direct"

-- extras in brackets, or nothing without extras
abbrev pub extras_text : List (List ℕ) → List ℕ
extras_text [] = []
extras_text (extra ∷ extras) = codes "[" ++ (join_with_byte 44 (extra ∷ extras) ++ codes "]")

abbrev pub row_text : List Candidate → RowRecord → List ℕ
row_text candidates row =
    row.name ++ (extras_text row.extras ++ (codes " " ++ (outcome_text candidates row.outcome ++ codes "\n")))

abbrev pub answer_text : List Candidate → List RowRecord → List ℕ
answer_text candidates rows = flat_map (row_text candidates) rows

-- a text is that of the answer
abbrev pub IsAnswerText : Admits → List Front → List Candidate → List ℕ → Type 0
IsAnswerText admits asks candidates text =
    (rows : List RowRecord) × IsAnswer admits asks candidates rows × (text ≡ answer_text candidates rows)
