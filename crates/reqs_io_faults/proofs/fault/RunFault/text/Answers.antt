use Rattle.std.proofs.Common.{append_assoc}
use Rattle.reqs_io_faults.proofs.Texts.{made}
use Rattle.reqs_io_faults.proofs.fault.RunFault.text.Goals as goal

pub returns-in-NotText-clause-text : goal.returns-in-NotText-clause-text
returns-in-NotText-clause-text c = rw c.in-NotText.is (made _ _ _ c.format-in-NotText.ensures.ok (rw c.path-path.ensures (simp append_assoc)))
