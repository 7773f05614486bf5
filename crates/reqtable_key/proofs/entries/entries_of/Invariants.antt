use Rattle.std.proofs.Common.{map, take}
use Rattle.reqtable_compare.specs.Differences.{listed}
use Rattle.reqtable_key.specs.Entries.{AreOfPackages, entry_seen}
use Rattle.reqtable_key.proofs.entries.entries_of.Given as goal

abbrev pub invariant-loop-name : goal.invariant-loop-name
invariant-loop-name l =
    AreOfPackages (listed l.lines l.table) (map (λ name. name.now) (take l.name-index l.names)) (map entry_seen l.entries.items)
