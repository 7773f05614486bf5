use Rattle.std.proofs.Common.{◌≡◌, ◌++◌, map, take}
use Rattle.std.specs.List.{flat_map, AllByRecursion}
use Rattle.reqtable_compare.specs.Seen.{summary_record}
use Rattle.reqtable_key.specs.Entries.{HasNormal, entry_seen, own_entries}
use Rattle.reqtable_key.proofs.entries.push_package.Given as goal

abbrev pub invariant-loop-case : goal.invariant-loop-case
invariant-loop-case l = record {
  entries : map entry_seen l.entries.items
      ≡ map entry_seen l.fn.entries.items ++ flat_map (own_entries l.name) (map summary_record (take l.case-index l.case-items));
  normal : AllByRecursion HasNormal (map summary_record (take l.case-index l.case-items));
}
