-- The packages of groups of lines.
use Rattle.std.specs.Prelude.{◌≡◌, ◌≤◌, ◌<◌, ◌+◌, ◌⊎◌, ℕ, min, List, ◌∷◌, ◌++◌, map, length}
use Rattle.std.specs.Prelude.{Option, Some, None, option_map, Result}
use Rattle.std.specs.List.{AllZip, AllByRecursion}
use Rattle.pep508_tree.specs.Meaning.{NodeRecord, IsTree}
use Rattle.pep508_cases.specs.Cases.{Marking, marks_of, HasMore}
use Rattle.reqtable_requirements.specs.LineReading.{LineRecord}
use Rattle.reqtable_groups.specs.declared.lines_by_package.Group.{Group}
use Rattle.reqtable_table.specs.declared.table.TableError.{TableError}
use Rattle.reqtable_table.specs.declared.table.TableError.TheVariants.{TooManyCases, TooManyCasesInAll}
use Rattle.reqtable_table.specs.declared.table.TableError.TheVariants.{Memory}
use Rattle.reqtable_table.specs.Kept.{KeptPackage}
use Rattle.reqtable_table.specs.KeptLines.{kept_by}
use Rattle.reqtable_table.specs.Cases.{HasItsCases, table_cases, Builds, BuildsWithin}

-- the markers of a group's lines are trees of these nodes
abbrev pub AreOfTrees : List NodeRecord → Group → Type 0
AreOfTrees nodes group = AllByRecursion (λ line. IsTree nodes line.marker) group.lines.items

-- which of a group's lines apply
abbrev pub group_marks : List NodeRecord → Group → Marking
group_marks nodes group = marks_of nodes (map (λ line. line.marker) group.lines.items)

-- a group's lines with their cases, no more than the limit
pub record IsPackageOf (limit : ℕ) (nodes : List NodeRecord) (group : Group) (kept : KeptPackage)
    : Type 0 where
  pub name : kept.name ≡ group.name
  pub lines : kept.lines ≡ map kept_by group.lines.items
  pub cases : HasItsCases nodes kept
  pub few : length kept.cases ≤ limit

-- ---- how many cases there may be

-- the most cases of a package, if all packages that are still to come may have only so many together
abbrev pub most_cases : ℕ → Option ℕ → ℕ
most_cases limit None = limit
most_cases limit (Some left) = min limit left

-- the refusal of a package with more cases than that: for all packages where these leave fewer than the limit
abbrev pub IsRefusalOf : ℕ → Option ℕ → List ℕ → TableError → Type 0
IsRefusalOf limit left name (TooManyCases other) = (other ≡ name) × (most_cases limit left ≡ limit)
IsRefusalOf limit left name TooManyCasesInAll =
    (most_cases limit left < limit) × (left ≡ Some (most_cases limit left))
IsRefusalOf limit left name Memory = ⊥

-- a group has more cases than it may have; nothing is claimed of running out of memory
abbrev pub IsRefusal : ℕ → Option ℕ → List NodeRecord → Group → TableError → Type 0
IsRefusal limit left nodes group error =
    (error ≡ Memory)
    ⊎ (IsRefusalOf limit left group.name error × HasMore (most_cases limit left) (group_marks nodes group))

-- what is left of a number of cases, if there is one, once so many were made
abbrev pub IsLeft : Option ℕ → ℕ → Option ℕ → Type 0
IsLeft in_all made left = in_all ≡ option_map (λ n. made + n) left

-- the first of some groups that has more cases than it may have, and the packages of those before it
pub record IsRefusedAt (limit : ℕ) (in_all : Option ℕ) (nodes : List NodeRecord) (groups : List Group)
    (error : TableError) : Type 0 where
  pub front : List Group
  pub group : Group
  pub back : List Group
  pub split : groups ≡ front ++ group ∷ back
  pub table : List KeptPackage
  pub made : AllZip (IsPackageOf limit nodes) front table
  pub left : Option ℕ
  pub is_left : IsLeft in_all (table_cases table) left
  pub refused : IsRefusalOf limit left group.name error
  pub more : HasMore (most_cases limit left) (group_marks nodes group)

abbrev pub IsFirstRefusal : ℕ → Option ℕ → List NodeRecord → List Group → TableError → Type 0
IsFirstRefusal limit in_all nodes groups error =
    (error ≡ Memory) ⊎ IsRefusedAt limit in_all nodes groups error

-- so many cases are no more than there may be, if that is bounded
abbrev pub IsWithin : Option ℕ → ℕ → Type 0
IsWithin None made = Unit {0}
IsWithin (Some in_all) made = made ≤ in_all

-- the result of building a table, with or without a bound on the cases of all packages
abbrev pub BuildsBy : ℕ → Option ℕ → List NodeRecord → List LineRecord → Result (List KeptPackage) TableError
    → Type 0
BuildsBy limit None nodes said result = Builds limit nodes said result
BuildsBy limit (Some in_all) nodes said result = BuildsWithin limit in_all nodes said result
