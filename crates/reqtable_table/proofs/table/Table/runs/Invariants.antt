use Rattle.std.proofs.Common.{◌≡◌, ℕ, None, map, filter, take, get_or}
use Rattle.std.specs.List.{AllZip}
use Rattle.reqtable_candidates.specs.Ordered.{placed_seen}
use Rattle.reqtable_answer.specs.Asks.{is_candidate}
use Rattle.reqtable_table.specs.KeptLines.{package_record}
use Rattle.reqtable_table.proofs.table.Table.runs.Given as goal

abbrev pub invariant-loop-kept : goal.invariant-loop-kept
invariant-loop-kept l = record {
  are : AllZip (λ kept run. run ≡ filter (is_candidate kept.name) l.ordered.placed)
      (map package_record (take l.kept-index l.kept-items)) (map (map placed_seen) l.runs.items);
  none : AllZip (λ run told. (place : ℕ) → get_or told place None ≡ None) (map (map placed_seen) l.runs.items)
      (map (λ t. t.outcomes.items) l.told.items);
}
