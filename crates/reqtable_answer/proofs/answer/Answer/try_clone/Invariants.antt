use Rattle.std.proofs.Common.{◌≡◌, map, take}
use Rattle.reqtable_answer.specs.Rows.{row_seen}
use Rattle.reqtable_answer.proofs.answer.Answer.try_clone.Given as goal

abbrev pub invariant-loop-row : goal.invariant-loop-row
invariant-loop-row l = map row_seen l.rows.items ≡ map row_seen (take l.row-index l.row-items)
