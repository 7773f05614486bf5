use Rattle.std.proofs.Common.{append_assoc}
use Rattle.reqs_io_faults.proofs.Texts.{written}
use Rattle.reqs_io_faults.proofs.bounds.ExcessDisplay.fmt.Goals as goal

pub returns-in-ClausesFor-clause-writes : goal.returns-in-ClausesFor-clause-writes
returns-in-ClausesFor-clause-writes g c =
    rw c.in-ClausesFor.is (written _ _ _ _ _ _ c.write-in-ClausesFor.ensures.writes (simp append_assoc))
