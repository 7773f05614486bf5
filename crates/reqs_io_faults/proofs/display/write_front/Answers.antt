use Rattle.std.proofs.Common.{append_assoc}
use Rattle.reqs_io_faults.specs.FaultText.{input_words, requirement_front}
use Rattle.reqs_io_faults.proofs.Texts.{written}
use Rattle.reqs_io_faults.proofs.display.write_front.Goals as goal

pub returns : goal.returns
returns g c =
    written _ _ _ _ _ (requirement_front (input_words c.args.input) c.args.number c.args.error.now) c.writeln.ensures.writes
    (rw (c.start-start.ensures.start, c.len-len.ensures) (simp append_assoc))
