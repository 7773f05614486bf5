use Rattle.std.proofs.Common.{◌≡◌, map, take}
use Rattle.std.specs.List.{flat_map}
use Rattle.reqtable_table.specs.Given.{names_of}
use Rattle.reqtable_packages.proofs.names.lent_names.Given as goal

abbrev pub invariant-loop-list : goal.invariant-loop-list
invariant-loop-list l =
    map (λ name. name.now) l.names.items ≡ flat_map (λ list. names_of list.now) (take l.list-index l.lists)
