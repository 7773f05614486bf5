use Rattle.std.proofs.Common.{◌≡◌, map, drop}
use Rattle.reqtable_answer.specs.Rows.{row_seen}
use Rattle.reqs_answers.specs.Strict.{has_none}
use Rattle.reqs_answers.proofs.missing.has_none.Given as goal

-- what is left has one where all have
abbrev pub invariant-loop-row : goal.invariant-loop-row
invariant-loop-row l = has_none (map row_seen (drop l.row-index l.rows)) ≡ has_none (map row_seen l.rows)
