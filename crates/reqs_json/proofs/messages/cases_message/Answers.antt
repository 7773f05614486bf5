use Rattle.std.proofs.Common.{append_assoc}
use Rattle.reqs_io_faults.proofs.Texts.{made}
use Rattle.reqs_json.proofs.messages.cases_message.Goals as goal

pub returns : goal.returns
returns c = made _ _ _ c.format.ensures.ok (simp append_assoc)
