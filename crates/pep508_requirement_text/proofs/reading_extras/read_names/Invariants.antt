use Rattle.std.proofs.Common.{length}
use Rattle.pep508_requirement_text.proofs.ExtrasReading.{AreRead}
use Rattle.pep508_requirement_text.proofs.reading_extras.read_names.Given as goal

abbrev pub invariant-loop-piece : goal.invariant-loop-piece
invariant-loop-piece l = AreRead l.inside (length l.yielded) l.names.items
