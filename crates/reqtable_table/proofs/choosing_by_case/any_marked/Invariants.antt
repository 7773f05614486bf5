use Rattle.std.proofs.Common.{◌≡◌, Bool, false, take}
use Rattle.std.specs.List.{list_any}
use Rattle.pep508_cases.specs.Sets.{marked}
use Rattle.reqtable_table.specs.declared.kept.TableLine.{TableLine}
use Rattle.reqtable_table.specs.Choosing.{TestsBy}
use Rattle.reqtable_table.proofs.choosing_by_case.any_marked.Given as goal

abbrev pub invariant-loop-index : goal.invariant-loop-index
invariant-loop-index g l =
    (says : TableLine → Bool) → TestsBy (goal.F-post g l.test) says → list_any says (marked (take l.index l.marks) (take l.index l.lines)) ≡ false
