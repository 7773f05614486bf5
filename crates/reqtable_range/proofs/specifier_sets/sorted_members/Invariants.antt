use Rattle.std.proofs.Common.{take}
use Rattle.reqtable_range.specs.Sorting.{SortsInto}
use Rattle.reqtable_range.proofs.ByKind.{listed}
use Rattle.reqtable_range.proofs.specifier_sets.sorted_members.Given as goal

abbrev pub invariant-loop-list : goal.invariant-loop-list
invariant-loop-list l = SortsInto (listed (take l.list-index l.lists)) l.sorted
