use Rattle.std.proofs.Common.{◌≡◌, map, take}
use Rattle.pep508_cases.specs.Sets.{marked}
use Rattle.reqtable_table.proofs.active_case.lists_of.Given as goal

abbrev pub invariant-loop-index : goal.invariant-loop-index
invariant-loop-index l =
    map (λ list. list.now) l.lists.items
    ≡ map (λ line. line.extras.items) (marked (take l.index l.marks) (take l.index l.lines))
