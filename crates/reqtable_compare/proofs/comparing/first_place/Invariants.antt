use Rattle.std.proofs.Common.{map, take}
use Rattle.std.specs.List.{AllByRecursion}
use Rattle.reqtable_compare.specs.Differences.{AgreeOn, listed}
use Rattle.reqtable_compare.proofs.comparing.first_place.Given as goal

abbrev pub invariant-loop-name : goal.invariant-loop-name
invariant-loop-name l =
    AllByRecursion (AgreeOn l.fn.relation l.interner.nodes (listed l.left l.left_table) (listed l.right l.right_table))
    (map (λ name. name.now) (take l.name-index l.names))
