use Rattle.std.proofs.Common.{◌≡◌, map, take}
use Rattle.reqtable_answer.specs.Says.{asks_seen}
use Rattle.reqtable_answer.proofs.extras.lists_of.Given as goal

abbrev pub invariant-loop-ask : goal.invariant-loop-ask
invariant-loop-ask l = map (λ list. list.now) l.lists.items ≡ map (λ ask. ask.extras) (asks_seen (take l.ask-index l.asks))
