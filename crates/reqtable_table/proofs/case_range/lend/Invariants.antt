use Rattle.std.proofs.Common.{◌≡◌, ◌++◌, take}
use Rattle.reqtable_range.specs.Together.{lent}
use Rattle.reqtable_table.proofs.case_range.lend.Given as goal

abbrev pub invariant-loop-member : goal.invariant-loop-member
invariant-loop-member l = lent l.members.items ≡ lent l.fn.members.items ++ take l.member-index l.more
