use Rattle.std.proofs.Common.{◌≡◌, map, take}
use Rattle.pep508_conjunctions.specs.Orders.{indexed}
use Rattle.pep508_conjunctions.proofs.variable_order.first_places.Given as goal

abbrev pub invariant-loop-index : goal.invariant-loop-index
invariant-loop-index l = map (indexed l.fn.trees) l.places.items ≡ take l.index l.fn.trees
