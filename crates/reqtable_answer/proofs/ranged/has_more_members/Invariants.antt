use Rattle.std.proofs.Common.{◌≡◌, ◌+◌, length, take}
use Rattle.reqtable_answer.proofs.Counting.{listed}
use Rattle.reqtable_answer.proofs.ranged.has_more_members.Given as goal

abbrev pub invariant-loop-list : goal.invariant-loop-list
invariant-loop-list l = l.left + length (listed (take l.list-index l.lists)) ≡ l.most
