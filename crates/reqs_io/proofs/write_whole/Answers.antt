use Rattle.std.proofs.Common.{arith, rules}
use Rattle.reqs_io.proofs.Written.{written_more, none_left}
use Rattle.reqs_io.proofs.write_whole.Goals as goal

pub loop-rest-preserved-in-Ok : goal.loop-rest-preserved-in-Ok
loop-rest-preserved-in-Ok g c = record {
  so_far = written_more (g.W.Write.contents c.args.writer.now) (g.W.Write.contents c.loop-rest.writer)
      (g.W.Write.contents c.write.new.self) c.loop-rest.rest.now c.args.text.now c.in-Ok.count c.after-rest.result.now
      c.after-rest.ensures c.loop-rest.invariant.so_far c.in-Ok.ensures.bytes;
  untouched = λ empty. absurd (none_left _ _ _ _ c.loop-rest.invariant.so_far empty (search rules));
  borne = omega arith;
}
