use Rattle.std.proofs.Common.{◌≡◌, ℕ, List, take, map}
use Rattle.std.specs.List.{list_any}
use Rattle.reqtable_answer.specs.Groups.{has_group}
use Rattle.reqtable_key.specs.Entries.{entry_seen, is_under, trees_at, trees_under}
use Rattle.reqtable_key.proofs.entries.grouped.Given as goal

abbrev pub invariant-loop-entry : goal.invariant-loop-entry
invariant-loop-entry l = record {
  trees : (q : List ℕ) → trees_at l.groups q ≡ trees_under q (map entry_seen (take l.entry-index l.entries));
  heads : (q : List ℕ) → has_group l.groups q ≡ list_any (is_under q) (map entry_seen (take l.entry-index l.entries));
}
