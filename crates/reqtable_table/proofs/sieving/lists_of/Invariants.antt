use Rattle.std.proofs.Common.{map, take}
use Rattle.reqtable_table.proofs.Sifted.{AcceptAll}
use Rattle.reqtable_table.proofs.sieving.lists_of.Given as goal

abbrev pub invariant-loop-index : goal.invariant-loop-index
invariant-loop-index l =
    AcceptAll (take l.index l.marks) (take l.index l.lines) (map (λ list. list.now) l.lists.items)
