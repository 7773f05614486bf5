-- What holds of every table, whichever text it was built from.
use Rattle.std.specs.Prelude.{◌≡◌, true, List, [], map}
use Rattle.std.specs.List.{list_any, AllByRecursion}
use Rattle.std.specs.List.Sorted.{IsStrictlySortedBy}
use Rattle.std.specs.Ordering.{nat_cmp}
use Rattle.std.specs.Cmp.Lexicographic.{slice_cmp}
use Rattle.pep440_specifier.specs.Building.{IsBuilt}
use Rattle.pep440_range.specs.Agreement.{IsSaid}
use Rattle.reqtable_search.specs.Told.{is_bound}
use Rattle.reqtable_table.specs.Kept.{KeptLine, KeptPackage, names_in}

-- a line's flags are those of its specifiers, and one with a URL has none
pub record HasItsFlags (line : KeptLine) : Type 0 where
  pub bounded : line.bounded ≡ list_any (λ s. is_bound s.operator) line.specifiers.members
  pub direct : line.url ≡ true → line.specifiers.members ≡ []

-- a line's specifiers are ones that can be written
abbrev pub IsOfTexts : KeptLine → Type 0
IsOfTexts line = AllByRecursion (λ s. IsBuilt s × IsSaid s.version) line.specifiers.members

-- a package's lines, in the order of their text
pub record HasItsLines (kept : KeptPackage) : Type 0 where
  pub rising : IsStrictlySortedBy nat_cmp (map (λ line. line.number) kept.lines)
  pub flags : AllByRecursion HasItsFlags kept.lines
  pub read : AllByRecursion IsOfTexts kept.lines

-- packages in the order of the bytes of their names
pub record IsTable (table : List KeptPackage) : Type 0 where
  pub rising : IsStrictlySortedBy (slice_cmp nat_cmp) (names_in table)
  pub lines : AllByRecursion HasItsLines table
