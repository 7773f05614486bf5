-- Selecting by a case: what its lines require, which versions its range decides, and what testing its
-- specifiers changes.
use Rattle.std.specs.Prelude.{◌≡◌, ◌≤◌, ◌+◌, ◌&&◌, ℕ, Bool, true, false, List, map, length}
use Rattle.std.specs.Prelude.{find, Option, Some, None, option_map, if◌then◌else◌}
use Rattle.std.specs.Borrow.{Bor}
use Rattle.std.specs.List.{list_any, list_all, AllZip}
use Rattle.std.specs.List.Sorted.{IsStrictlySortedBy}
use Rattle.std.specs.Ordering.{nat_cmp}
use Rattle.std.specs.Cmp.Lexicographic.{slice_cmp}
use Rattle.std.specs.Str.{bytes_eq}
use Rattle.version_ranges.specs.Point.{Point, At}
use Rattle.pep440_version.specs.Record.{VersionRecord}
use Rattle.pep440_range.specs.Agreement.{IsSaid}
use Rattle.pep508_diagram.specs.Question.{Valuation}
use Rattle.pep508_tree.specs.Meaning.{NodeRecord}
use Rattle.pep508_requirement_text.specs.FrontReading.{Front}
use Rattle.pep508_cases.specs.Cases.{Marks}
use Rattle.reqtable_candidates.specs.declared.candidates.Candidate.{Candidate}
use Rattle.reqtable_answer.specs.declared.answer.Outcome.{Outcome}
use Rattle.reqtable_answer.specs.declared.answer.Outcome.TheVariants.{Direct}
use Rattle.reqtable_answer.specs.Admission.{Admits}
use Rattle.reqtable_answer.specs.Answer.{RowRecord, chosen}
use Rattle.reqtable_answer.specs.Asks.{has_url, has_extra, ask_takes, may_be_taken, names_prerelease}
use Rattle.pep508_cases.specs.Sets.{marked}
use Rattle.reqtable_cases.specs.Usable.{is_usable, members_asked, points_of, IsRangeOf}
use Rattle.reqtable_search.specs.Told.{is_plain, is_told}
use Rattle.reqtable_table.specs.declared.kept.TableLine.{TableLine}
use Rattle.reqtable_table.specs.declared.table.Case.{Case}
use Rattle.reqtable_table.specs.Kept.{KeptLine, KeptPackage, kept_front}
use Rattle.reqtable_table.specs.Cases.{HasItsCases}
use Rattle.reqtable_table.specs.Casing.{case_record}
use Rattle.reqtable_table.specs.Counts.{tests_of}
use Rattle.reqtable_table.specs.Answers.{kept_marks, kept_asked, is_asked, SameLine}

-- what the marked lines require
abbrev pub case_asks : Marks → List KeptLine → List Front
case_asks marks lines = map kept_front (marked marks lines)

-- the lines of a package that apply under some valuation, for nodes with which it has its cases
pub record AreApplying (marks : Marks) (kept : KeptPackage) : Type 0 where
  pub nodes : List NodeRecord
  pub valuation : Valuation
  pub has : HasItsCases nodes kept
  pub are : marks ≡ kept_marks nodes valuation kept.lines

-- a case is that of the marked lines: it has their numbers, and its flag is that of what they require
pub record IsCaseFor (marks : Marks) (lines : List KeptLine) (case : Case) : Type 0 where
  pub numbers : (case_record case).numbers ≡ map (λ line. line.number) (marked marks lines)
  pub prerelease : case.pre ≡ names_prerelease (case_asks marks lines)

-- a test of lines with these results computes this predicate
abbrev pub TestsBy : (Bor TableLine → Bool → Type 0) → (TableLine → Bool) → Type 0
TestsBy returns says = (line : Bor TableLine) (answer : Bool) → returns line answer → answer ≡ says line.now

-- a case's range, which contains exactly the versions that the requirements accept, of those that it decides
pub record Tells (bounded : Bool) (range : Option (List (Point VersionRecord)))
    (asks : List Front) : Type 0 where
  pub range_is : IsRangeOf asks range
  pub exact : (version : VersionRecord) → IsSaid version → is_told bounded version ≡ true →
      is_usable asks ≡ true → points_of asks (At version) ≡ list_all (ask_takes version) asks

-- how many specifiers are tested for a version at most
abbrev pub tests_at : List Front → VersionRecord → ℕ
tests_at asks version = if is_usable asks && is_plain version then 0 else length (members_asked asks)

-- the lines are unchanged, with at most `most` tests more
pub record AskedMore (most : ℕ) (lines before : List KeptLine) : Type 0 where
  pub same : AllZip SameLine lines before
  pub tests : tests_of lines ≤ tests_of before + most

-- the outcome of a package by its candidates from the highest down: the first that is accepted and admitted
abbrev pub outcome_in_order : Admits → List Front → List (ℕ × Candidate) → Outcome
outcome_in_order admits asks run =
    if list_any has_url asks then Direct
    else chosen (option_map (λ found. found.0) (find (may_be_taken admits asks) run))

-- a row is that of a package by its candidates from the highest down
pub record IsRowByRun (admits : Admits) (nodes : List NodeRecord) (v : Valuation) (run : List (ℕ × Candidate))
    (kept : KeptPackage) (row : RowRecord) : Type 0 where
  pub asked : is_asked nodes v kept ≡ true
  pub named : row.name ≡ kept.name
  pub extras_rise : IsStrictlySortedBy (slice_cmp nat_cmp) row.extras
  pub extras_are : (extra : List ℕ) →
      list_any (bytes_eq extra) row.extras ≡ list_any (has_extra extra) (kept_asked nodes v kept.lines)
  pub outcome : row.outcome ≡ outcome_in_order admits (kept_asked nodes v kept.lines) run

-- a row is that of a package by its candidates from the highest down, if a line of it applies
abbrev pub IsRowInOrder : Admits → List NodeRecord → Valuation → List (ℕ × Candidate) → KeptPackage
    → Option RowRecord → Type 0
IsRowInOrder admits nodes v run kept None = is_asked nodes v kept ≡ false
IsRowInOrder admits nodes v run kept (Some row) = IsRowByRun admits nodes v run kept row
