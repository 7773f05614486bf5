use Rattle.std.proofs.Common.{map}
use Rattle.reqtable_answer.specs.Rows.{row_seen}
use Rattle.reqs_json.proofs.OneLine.{line_is}
use Rattle.reqs_json.proofs.Plain.{plain_answer}
use Rattle.reqs_json.proofs.answers.answer_line.Goals as goal

pub line_of-requires : goal.line_of-requires
line_of-requires c = rw c.in_ok-object.ensures (plain_answer c.args.candidates.now (map row_seen c.args.rows.now))

pub returns : goal.returns
returns c = line_is c.line_of.result _ _ c.in_ok-object.ensures c.line_of.ensures
