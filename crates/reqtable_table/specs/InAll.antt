-- The cases of all packages of some lines together.
use Rattle.std.specs.Prelude.{◌≡◌, ◌≤◌, ◌<◌, ◌+◌, ℕ, true, List, [], ◌∷◌, length}
use Rattle.std.specs.List.{AllZip, AllByRecursion}
use Rattle.std.specs.List.Sorted.{IsStrictlySortedBy}
use Rattle.std.specs.Ordering.{nat_cmp}
use Rattle.std.specs.Cmp.Lexicographic.{slice_cmp}
use Rattle.std.specs.declared.cmp.Ordering.TheVariants.{Less}
use Rattle.reqtable_requirements.specs.LineReading.{LineRecord}
use Rattle.reqtable_requirements.specs.Asks.{lines_of}
use Rattle.pep508_cases.specs.Cases.{Marks, marks_cmp, IsRealised}
use Rattle.reqtable_cases.specs.Lines.{line_marks, is_named, HasTooMany}

-- how many cases some packages have together, by the cases of each
abbrev pub cases_in_all : {A : Type 0} → List (List A) → ℕ
cases_in_all [] = 0
cases_in_all (cases ∷ others) = length cases + cases_in_all others

-- cases of a package that some line names: realised sets of its lines, each once, no more than the limit
pub record AreSomeCases (limit : ℕ) (lines : List LineRecord) (name : List ℕ) (sets : List Marks)
    : Type 0 where
  pub named : is_named name lines ≡ true
  pub rising : IsStrictlySortedBy marks_cmp sets
  pub realised : AllByRecursion (IsRealised (line_marks (lines_of name lines))) sets
  pub few : length sets ≤ limit

-- the packages up to one, by name, have more than `in_all` cases together, also where no more than the limit
-- are counted of each
pub record HasMoreInAll (limit in_all : ℕ) (lines : List LineRecord) (last : List ℕ) : Type 0 where
  pub names : List (List ℕ)
  pub rising : IsStrictlySortedBy (slice_cmp nat_cmp) names
  pub up_to : AllByRecursion (λ name. slice_cmp nat_cmp last name ≡ Less → ⊥) names
  pub sets : List (List Marks)
  pub each : AllZip (AreSomeCases limit lines) names sets
  pub more : in_all < cases_in_all sets

-- some package is the one up to which there are more than `in_all` cases together, and none before it has
-- more than the limit
pub record HasTooManyInAll (limit in_all : ℕ) (lines : List LineRecord) : Type 0 where
  pub last : List ℕ
  pub more : HasMoreInAll limit in_all lines last
  pub before : (other : List ℕ) → slice_cmp nat_cmp other last ≡ Less → HasTooMany limit lines other → ⊥
