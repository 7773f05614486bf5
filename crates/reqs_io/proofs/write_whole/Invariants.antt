use Rattle.std.proofs.Common.{◌+◌, ◌-◌, ◌*◌, ◌≤◌, ◌≡◌, [], length}
use Rattle.reqs_io.proofs.Written.{IsWritten}
use Rattle.reqs_io.proofs.write_whole.Given as goal

abbrev pub invariant-loop-rest : goal.invariant-loop-rest
invariant-loop-rest g l = record {
  so_far : IsWritten (g.W.Write.contents l.fn.writer) (g.W.Write.contents l.writer) l.rest l.text;
  untouched : l.text ≡ [] → l.writer ≡ l.fn.writer;
  borne : l.interrupted ≤ 1024;
}

abbrev pub decreases-loop-rest : goal.decreases-loop-rest
decreases-loop-rest g l = 1025 * length l.rest + (1024 - l.interrupted)
