use Rattle.std.proofs.Common.{◌++◌, take}
use Rattle.reqtable_range.specs.Sorting.{StandFor}
use Rattle.reqtable_range.specs.Together.{lent}
use Rattle.reqtable_range.proofs.single.without_implied.Given as goal

abbrev pub invariant-loop-member : goal.invariant-loop-member
invariant-loop-member l =
    StandFor (lent (take l.member-index l.members))
    ((lent l.parted.others.items ++ lent l.parted.ends.items) ++ lent l.parted.exact.items)
