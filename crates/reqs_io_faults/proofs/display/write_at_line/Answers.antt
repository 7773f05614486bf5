use Rattle.std.proofs.Common.{append_assoc}
use Rattle.reqs_io_faults.proofs.Texts.{written}
use Rattle.reqs_io_faults.proofs.display.write_at_line.Goals as goal

pub returns : goal.returns
returns g c = written _ _ _ _ _ _ c.write.ensures.writes (simp append_assoc)
