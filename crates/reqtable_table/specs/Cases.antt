-- The cases of a table, and the results of building one.
use Rattle.std.specs.Prelude.{◌≡◌, ◌≤◌, ℕ, List, map, Option, Result, Ok, Err}
use Rattle.std.specs.List.{AllZip, AllByRecursion}
use Rattle.std.specs.Option.{option_map}
use Rattle.std.specs.Str.{bytes_eq}
use Rattle.std.specs.Prelude.{find}
use Rattle.pep508_tree.specs.Tree.{Tree}
use Rattle.pep508_tree.specs.Meaning.{NodeRecord, IsTree}
use Rattle.pep508_cases.specs.Cases.{Marks, marks_of, AreCases}
use Rattle.reqtable_answer.specs.Asks.{names_prerelease}
use Rattle.reqtable_requirements.specs.LineReading.{LineRecord}
use Rattle.pep508_cases.specs.Sets.{marked}
use Rattle.reqtable_cases.specs.Lines.{line_marks, numbers_of, asked_by, HasTooMany, IsFirstTooMany}
use Rattle.reqtable_table.specs.InAll.{cases_in_all, HasMoreInAll, HasTooManyInAll}
use Rattle.reqtable_table.specs.declared.table.TableError.{TableError}
use Rattle.reqtable_table.specs.declared.table.TableError.TheVariants.{TooManyCases, TooManyCasesInAll}
use Rattle.reqtable_table.specs.declared.table.TableError.TheVariants.{Memory}
use Rattle.reqtable_table.specs.Kept.{KeptLine, KeptCase, KeptPackage, KeepsAll, kept_front}

-- the case of a set of lines, with the set's tree
pub record IsCaseOf (lines : List KeptLine) (case : KeptCase) (set : Marks × Tree) : Type 0 where
  pub set_is : case.set ≡ set.0
  pub numbers : case.numbers ≡ map (λ line. line.number) (marked set.0 lines)
  pub tree : case.tree ≡ set.1
  pub prerelease : case.prerelease ≡ names_prerelease (map kept_front (marked set.0 lines))

-- a package has the cases of its lines, whose markers are trees of these nodes
pub record HasItsCases (nodes : List NodeRecord) (kept : KeptPackage) : Type 0 where
  pub trees : AllByRecursion (λ line. IsTree nodes line.marker) kept.lines
  pub sets : List (Marks × Tree)
  pub are : AreCases (marks_of nodes (map (λ line. line.marker) kept.lines)) nodes sets
  pub each : AllZip (IsCaseOf kept.lines) kept.cases sets

-- the case of a set of a text's lines, with the set's tree
pub record IsCaseOfLines (lines : List LineRecord) (case : KeptCase) (set : Marks × Tree) : Type 0 where
  pub numbers : case.numbers ≡ numbers_of set.0 lines
  pub tree : case.tree ≡ set.1
  pub prerelease : case.prerelease ≡ names_prerelease (asked_by set.0 lines)

-- the cases of a text's lines
pub record AreCasesOf (nodes : List NodeRecord) (lines : List LineRecord) (cases : List KeptCase)
    : Type 0 where
  pub sets : List (Marks × Tree)
  pub are : AreCases (line_marks lines) nodes sets
  pub each : AllZip (IsCaseOfLines lines) cases sets

-- a line is another one with a new number
pub record IsRenumbered (line other : LineRecord) : Type 0 where
  pub front : line.front ≡ other.front
  pub formula : line.formula ≡ other.formula

-- a case is another one, of lines with new numbers
pub record SameCase (case other : KeptCase) : Type 0 where
  pub tree : case.tree ≡ other.tree
  pub prerelease : case.prerelease ≡ other.prerelease

-- the cases under a name
abbrev pub cases_under : List ℕ → List KeptPackage → Option (List KeptCase)
cases_under name table = option_map (λ p. p.cases) (find (λ p. bytes_eq name p.name) table)

-- the result of building a table of lines, with these nodes afterwards: it keeps the lines and has the cases
-- of each package, none of which has more than the limit; or the first package by name that has more; or out
-- of memory
abbrev pub Builds : ℕ → List NodeRecord → List LineRecord → Result (List KeptPackage) TableError → Type 0
Builds limit nodes said (Ok table) =
    KeepsAll nodes table said × AllByRecursion (HasItsCases nodes) table
    × ((name : List ℕ) → HasTooMany limit said name → ⊥)
Builds limit nodes said (Err (TooManyCases name)) = IsFirstTooMany limit said name
Builds limit nodes said (Err TooManyCasesInAll) = ⊥
Builds limit nodes said (Err Memory) = Unit {0}

-- the number of cases of all packages
abbrev pub table_cases : List KeptPackage → ℕ
table_cases table = cases_in_all (map (λ p. p.cases) table)

-- the result of building a table of lines with at most `in_all` cases together: it does; or the first package
-- by name has more cases than the limit, and with no more than the limit of its cases there are no more than
-- `in_all` up to it; or there are more up to some package, and none before it has more than the limit; or out
-- of memory
abbrev pub BuildsWithin : ℕ → ℕ → List NodeRecord → List LineRecord → Result (List KeptPackage) TableError
    → Type 0
BuildsWithin limit in_all nodes said (Ok table) =
    Builds limit nodes said (Ok table) × (table_cases table ≤ in_all)
    × ((last : List ℕ) → HasMoreInAll limit in_all said last → ⊥)
BuildsWithin limit in_all nodes said (Err (TooManyCases name)) =
    IsFirstTooMany limit said name × (HasMoreInAll limit in_all said name → ⊥)
BuildsWithin limit in_all nodes said (Err TooManyCasesInAll) = HasTooManyInAll limit in_all said
BuildsWithin limit in_all nodes said (Err Memory) = Unit {0}
