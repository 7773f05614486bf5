use Rattle.std.proofs.Common.{length}
use Rattle.pep440_specifier_list.proofs.Pieces.{IsReading}
use Rattle.pep440_specifier_list.proofs.reading.read_members.Given as goal

abbrev pub invariant-loop-piece : goal.invariant-loop-piece
invariant-loop-piece l = IsReading l.text (length l.yielded) l.members.items l.start
