use Rattle.std.proofs.Common.{option_map}
use Rattle.reqs_json.proofs.OneLine.{line_is}
use Rattle.reqs_json.proofs.Plain.{plain_error}
use Rattle.reqs_json.proofs.faults.error_line.Goals as goal

pub line_of-requires : goal.line_of-requires
line_of-requires c = rw c.in_ok-object.ensures (plain_error c.args.kind.now c.args.message.now (option_map (λ p. p.now) c.args.path) c.args.place)

pub returns : goal.returns
returns c = line_is c.line_of.result _ _ c.in_ok-object.ensures c.line_of.ensures
