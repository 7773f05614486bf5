use Rattle.std.proofs.Common.{◌≡◌, take}
use Rattle.reqtable_streaming.proofs.required.copied.Given as goal

abbrev pub invariant-loop-ask : goal.invariant-loop-ask
invariant-loop-ask l = l.copies.items ≡ take l.ask-index l.asks
