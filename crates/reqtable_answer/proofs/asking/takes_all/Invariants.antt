use Rattle.std.proofs.Common.{◌≡◌, take, true}
use Rattle.std.specs.List.{list_all}
use Rattle.reqtable_answer.specs.Asks.{ask_takes}
use Rattle.reqtable_answer.specs.Says.{ask_seen}
use Rattle.reqtable_answer.proofs.asking.takes_all.Given as goal

abbrev pub invariant-loop-ask : goal.invariant-loop-ask
invariant-loop-ask l = list_all (λ ask. ask_takes l.version (ask_seen ask)) (take l.ask-index l.asks) ≡ true
