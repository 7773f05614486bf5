-- The conflicts of a list's lines.
use Rattle.std.specs.Prelude.{◌≡◌, ◌<◌, ℕ, Bool, true, false, List, [], ◌∷◌, length, map, filter}
use Rattle.std.specs.Prelude.{Result, Ok, Err}
use Rattle.std.specs.List.{AllByRecursion}
use Rattle.std.specs.Ordering.{nat_cmp}
use Rattle.std.specs.Cmp.Lexicographic.{slice_cmp}
use Rattle.std.specs.Str.{bytes_eq}
use Rattle.std.specs.declared.cmp.Ordering.TheVariants.{Less}
use Rattle.version_ranges.specs.Point.{Point}
use Rattle.pep440_version.specs.Record.{VersionRecord}
use Rattle.reqtable_requirements.specs.LineReading.{LineRecord}
use Rattle.reqtable_requirements.specs.Asks.{lines_of}
use Rattle.reqtable_cases.specs.Lines.{HasTooMany, IsFirstTooMany}
use Rattle.reqtable_cases.specs.Conflicts.{AreConflicts}
use Rattle.reqtable_cases.specs.Usable.{is_usable, points_of}
use Rattle.reqtable_table.specs.declared.table.TableError.{TableError}
use Rattle.reqtable_table.specs.declared.table.TableError.TheVariants.{TooManyCases, TooManyCasesInAll}
use Rattle.reqtable_table.specs.declared.table.TableError.TheVariants.{Memory}
use Rattle.reqtable_table.specs.InAll.{HasTooManyInAll}
use Rattle.reqtable_table.specs.Kept.{KeptLine, KeptCase}
use Rattle.reqtable_table.specs.Numbered.{asks_at}
use Rattle.reqtable_conflicts.specs.declared.contradicting.Conflict.{Conflict}

-- lines of a package, by their numbers, and whether some specifier of them names a pre-release
pub record ConflictRecord : Type 0 where
  pub name : List ℕ
  pub numbers : List ℕ
  pub prerelease : Bool

abbrev pub conflict_record : Conflict → ConflictRecord
conflict_record found =
    record { name = found.package; numbers = found.lines.items; prerelease = found.pre }

-- the conflicts of a package, in their order
abbrev pub told_under : List ℕ → List ConflictRecord → List (List ℕ × Bool)
told_under name found = map (λ c. (c.numbers, c.prerelease)) (filter (λ c. bytes_eq name c.name) found)

-- no conflict comes after one of a later name
abbrev pub StandByName : List ConflictRecord → Type 0
StandByName [] = Unit {0}
StandByName (c ∷ found) =
    AllByRecursion (λ other. slice_cmp nat_cmp other.name c.name ≡ Less → ⊥) found × StandByName found

-- the conflicts that are found in some lines: those of each package, in the order of the packages' names; or
-- the first package by name that has more cases than the limit; or out of memory
abbrev pub FindsConflicts : {X : Type 0} → (X → List ConflictRecord) → ℕ → List LineRecord
    → Result X TableError → Type 0
FindsConflicts view limit said (Ok found) =
    ((name : List ℕ) → HasTooMany limit said name → ⊥) × StandByName (view found)
    × ((name : List ℕ) → AreConflicts (lines_of name said) (told_under name (view found)))
FindsConflicts view limit said (Err (TooManyCases name)) = IsFirstTooMany limit said name
FindsConflicts view limit said (Err TooManyCasesInAll) = ⊥
FindsConflicts view limit said (Err Memory) = Unit {0}

-- the conflicts that are found with a bound on the cases of all packages together: it is passed only where
-- the lines have more cases in all
abbrev pub FindsWithin : {X : Type 0} → (X → List ConflictRecord) → ℕ → ℕ → List LineRecord
    → Result X TableError → Type 0
FindsWithin view limit in_all said (Ok found) = FindsConflicts view limit said (Ok found)
FindsWithin view limit in_all said (Err (TooManyCases name)) = IsFirstTooMany limit said name
FindsWithin view limit in_all said (Err TooManyCasesInAll) = HasTooManyInAll limit in_all said
FindsWithin view limit in_all said (Err Memory) = Unit {0}

-- a case has some of a package's lines, which are usable, and no point is in all ranges of their specifiers
pub record HasNoPoint (lines : List KeptLine) (case : KeptCase) : Type 0 where
  pub some : 0 < length case.numbers
  pub usable : is_usable (asks_at case.numbers lines) ≡ true
  pub none : (p : Point VersionRecord) → points_of (asks_at case.numbers lines) p ≡ false
