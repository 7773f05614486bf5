-- Summaries of a table's cases.
use Rattle.std.specs.Prelude.{◌≡◌, ℕ, Bool, true, false, List, [], ◌∷◌, map, Option, Some, None}
use Rattle.std.specs.List.{list_any, AllZip}
use Rattle.std.specs.List.Sorted.{IsStrictlySortedBy}
use Rattle.std.specs.Ordering.{nat_cmp}
use Rattle.std.specs.Cmp.Lexicographic.{slice_cmp}
use Rattle.std.specs.Str.{bytes_eq}
use Rattle.pep508_tree.specs.Tree.{always}
use Rattle.reqtable_requirements.specs.declared.requirements.Line.{Line}
use Rattle.reqtable_cases.specs.Usable.{IsRangeOf}
use Rattle.reqtable_table.specs.Kept.{KeptLine, KeptCase}
use Rattle.reqtable_table.specs.Numbered.{asks_at}
use Rattle.reqtable_compare.specs.Numbered.{extras_at}
use Rattle.reqtable_compare.specs.Summed.{SummaryRecord}

abbrev pub some_numbers : List ℕ → Bool
some_numbers [] = false
some_numbers (number ∷ numbers) = true

-- the summary of a table's case, with the extras of its lines in their list, and the range of its lines in
-- the table
pub record IsSummed (lines : List Line) (kept : List KeptLine) (summary : SummaryRecord) (case : KeptCase)
    : Type 0 where
  pub some : summary.some ≡ some_numbers case.numbers
  pub rising : IsStrictlySortedBy (slice_cmp nat_cmp) summary.extras
  pub extras : (extra : List ℕ) → list_any (bytes_eq extra) summary.extras
      ≡ list_any (list_any (bytes_eq extra)) (map (extras_at lines) case.numbers)
  pub range : IsRangeOf (asks_at case.numbers kept) summary.range
  pub prerelease : summary.prerelease ≡ case.prerelease
  pub tree : summary.tree ≡ case.tree

-- the summary of a case without lines, which requires nothing
abbrev pub no_lines : SummaryRecord
no_lines = record { some = false; extras = []; range = None; prerelease = false; tree = always }

abbrev pub AreSummed : List Line → List KeptLine → Option (List KeptCase) → List SummaryRecord → Type 0
AreSummed lines kept None summaries = summaries ≡ no_lines ∷ []
AreSummed lines kept (Some cases) summaries = AllZip (IsSummed lines kept) summaries cases
