use Rattle.std.proofs.Common.{◌≡◌, map, take}
use Rattle.reqtable_compare.specs.Numbered.{extras_at}
use Rattle.reqtable_compare.proofs.summing.lists_of.Given as goal

abbrev pub invariant-loop-number : goal.invariant-loop-number
invariant-loop-number l =
    map (λ list. list.now) l.lists.items ≡ map (extras_at l.lines) (take l.number-index l.numbers)
