use Rattle.std.proofs.Common.{◌+◌, ◌<◌, length, take, arith}
use Rattle.reqs_io.proofs.Told.{all_is_longer}
use Rattle.reqs_io.proofs.read_whole.Goals as goal

pub returns-then-count-limit-clause-too_long : goal.returns-then-count-limit-clause-too_long
returns-then-count-limit-clause-too_long g c =
    let longer : c.args.limit < length c.loop.bytes.items + length (take c.in-Ok.count c.read.new.buf) =
    omega (arith, c.in-Ok.ensures.bound.1) in
    λ same. all_is_longer _ _ _ c.loop.bytes.items _ c.args.limit c.loop.invariant.taken c.in-Ok.ensures.bytes.0 longer
