use Rattle.std.proofs.Common.{◌≡◌, take}
use Rattle.reqtable_search.specs.InRun.{untold_from}
use Rattle.reqtable_search.proofs.undecided.untold_places.Given as goal

abbrev pub invariant-loop-index : goal.invariant-loop-index
invariant-loop-index l = l.places.items ≡ untold_from l.bounded 0 (take l.index l.placed)
