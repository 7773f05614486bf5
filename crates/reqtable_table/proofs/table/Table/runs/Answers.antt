use Rattle.std.proofs.Common.{◌≡◌, ◌∙◌, ◌+◌, ℕ, None, List, Option, map, filter, take, get_or, ap}
use Rattle.std.proofs.lemmas.List.{map-append}
use Rattle.reqtable_candidates.specs.Ordered.{placed_seen}
use Rattle.reqtable_candidates.specs.declared.candidates.Candidate.{Candidate}
use Rattle.reqtable_answer.specs.Asks.{is_candidate}
use Rattle.reqtable_answer.specs.declared.answer.Outcome.{Outcome}
use Rattle.reqtable_table.specs.Kept.{KeptPackage}
use Rattle.reqtable_table.specs.KeptLines.{package_record}
use Rattle.reqtable_table.proofs.Finding.{seen_more}
use Rattle.reqtable_table.proofs.Packages.{zip_pushed}
use Rattle.reqtable_table.proofs.table.Table.runs.Goals as goal

pub loop-kept-preserved : goal.loop-kept-preserved
loop-kept-preserved c =
    let items = c.deref-kept-items.result.now in
    let i = c.loop-kept.kept-index in
    let kept = c.kept-item.result in
    let runs = c.loop-kept.runs.items in
    let told = c.loop-kept.told.items in
    let placed = c.args.ordered.now.placed in
    let own = map placed_seen c.in_ok-of.field-0 in
    let pushed = ap (map (map placed_seen)) c.in_ok-push-2.ensures.items ∙ map-append (map placed_seen) runs _ in
    record {
      are =
          zip_pushed (λ (k : KeptPackage) run. run ≡ filter (is_candidate k.name) placed) (map package_record (take i items))
          (map package_record (take (i + 1) items)) (map (map placed_seen) runs)
          (map (map placed_seen) c.push-in-loop-kept.new.self.items) (package_record kept) own
          (seen_more package_record items i kept c.loop-kept-test.true c.kept-item.is) pushed
          c.loop-kept.invariant.are c.in_ok-of.ensures;
      none =
          zip_pushed (λ (run : List (ℕ × Candidate)) (t : List (Option Outcome)). (place : ℕ) → get_or t place None ≡ None)
          (map (map placed_seen) runs) (map (map placed_seen) c.push-in-loop-kept.new.self.items)
          (map (λ t. t.outcomes.items) told) (map (λ t. t.outcomes.items) c.push.new.self.items) own
          c.in_ok-untold.field-0.outcomes.items pushed
          (ap (map (λ t. t.outcomes.items)) c.in_ok-push.ensures.items ∙ map-append (λ t. t.outcomes.items) told _)
          c.loop-kept.invariant.none c.in_ok-untold.ensures;
    }
