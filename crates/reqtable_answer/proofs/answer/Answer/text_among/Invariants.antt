use Rattle.std.proofs.Common.{◌≡◌, map, take, string_bytes}
use Rattle.reqtable_answer.specs.Rows.{row_seen}
use Rattle.reqtable_answer.specs.Answer.{answer_text}
use Rattle.reqtable_answer.proofs.answer.Answer.text_among.Given as goal

abbrev pub invariant-loop-row : goal.invariant-loop-row
invariant-loop-row l = string_bytes l.text ≡ answer_text l.candidates (map row_seen (take l.row-index l.row-items))
