use Rattle.std.proofs.Common.{arith}
use Rattle.reqtable_streaming.proofs.EightBytes.{by_pairs}
use Rattle.reqtable_streaming.proofs.fronts.front_of.Goals as goal

pub returns : goal.returns
returns c = by_pairs c.args.bytes.now (omega (arith, c.if-bytes-lt8.false))
