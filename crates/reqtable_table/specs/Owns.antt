-- The known outcomes of packages and their candidates, as records.
use Rattle.std.specs.Prelude.{List, map}
use Rattle.reqtable_candidates.specs.Ordered.{placed_seen, OrderedRecord}
use Rattle.reqtable_candidates.specs.declared.ordered.Placed.{Placed}
use Rattle.reqtable_table.specs.declared.runs.Told.{Told}
use Rattle.reqtable_table.specs.Runs.{OwnRecord, RunsRecord}

abbrev pub own_record : List Placed → Told → OwnRecord
own_record run told = record { run = map placed_seen run; told = told.outcomes.items }

abbrev pub runs_of : OrderedRecord → List (List Placed) → List Told → RunsRecord
runs_of ordered runs told = record {
  candidates = ordered.candidates;
  placed = ordered.placed;
  runs = map (map placed_seen) runs;
  told = map (λ t. t.outcomes.items) told;
}
