use Rattle.std.proofs.Common.{◌≡◌, map, take}
use Rattle.std.specs.List.{flat_map}
use Rattle.reqtable_answer.proofs.extras.lent_extras.Given as goal

abbrev pub invariant-loop-list : goal.invariant-loop-list
invariant-loop-list l = map (λ extra. extra.now) l.lent.items ≡ flat_map (λ list. list.now) (take l.list-index l.lists)
