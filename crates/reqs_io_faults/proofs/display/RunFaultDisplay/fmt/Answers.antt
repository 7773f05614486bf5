use Rattle.std.proofs.Common.{append_assoc}
use Rattle.reqs_io_faults.proofs.Texts.{written}
use Rattle.reqs_io_faults.proofs.display.RunFaultDisplay.fmt.Goals as goal

pub returns-in-TooManyCases-clause-writes : goal.returns-in-TooManyCases-clause-writes
returns-in-TooManyCases-clause-writes g c =
    rw c.in-TooManyCases.is (written _ _ _ _ _ _ c.write-in-TooManyCases.ensures.writes (simp append_assoc))
