-- What doesn't change of a table while its specifiers are tested.
use Rattle.std.specs.Prelude.{◌≡◌, List, length}
use Rattle.std.specs.List.{AllByRecursion}
use Rattle.pep508_tree.specs.Meaning.{NodeRecord}
use Rattle.reqtable_requirements.specs.LineReading.{LineRecord}
use Rattle.reqtable_table.specs.Cases.{HasItsCases}
use Rattle.reqtable_table.specs.Kept.{KeptPackage, KeepsAll}
use Rattle.reqtable_table.specs.Runs.{RunsRecord, AreRunsOf}

-- a table can be used, with these nodes, wherever the one before could with the old ones: it has its cases
-- and as many packages, and keeps the same lines; candidates found for the one before are found for it
pub record StillServes (old new : List NodeRecord) (before table : List KeptPackage) : Type 0 where
  pub cases : AllByRecursion (HasItsCases new) table
  pub packages : length table ≡ length before
  pub lines : (said : List LineRecord) → KeepsAll old before said → KeepsAll new table said
  pub runs : (all : RunsRecord) → AreRunsOf before all → AreRunsOf table all
