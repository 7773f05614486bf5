use Rattle.reqtable_answer.specs.Rows.{row_seen}
use Rattle.reqs_json.proofs.OneLine.{text_is}
use Rattle.reqs_json.proofs.Plain.{plain_package}
use Rattle.reqs_json.proofs.answers.row_object.Goals as goal

pub value_text-requires : goal.value_text-requires
value_text-requires c = rw c.in_ok-object.ensures (plain_package c.args.candidates.now (row_seen c.args.row.now))

pub returns : goal.returns
returns c = text_is c.value_text.result _ _ c.in_ok-object.ensures c.value_text.ensures
