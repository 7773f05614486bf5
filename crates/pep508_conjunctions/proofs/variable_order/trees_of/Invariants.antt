use Rattle.std.proofs.Common.{◌≡◌, map, take}
use Rattle.pep508_conjunctions.specs.Orders.{indexed}
use Rattle.pep508_conjunctions.proofs.variable_order.trees_of.Given as goal

abbrev pub invariant-loop-place : goal.invariant-loop-place
invariant-loop-place l = l.moved.items ≡ map (indexed l.fn.trees) (take l.place-index l.fn.places)
