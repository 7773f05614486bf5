use Rattle.std.proofs.Common.{◌≡◌, map, take}
use Rattle.std.specs.List.{enumerate_from}
use Rattle.reqtable_candidates.specs.Ordered.{placed_seen}
use Rattle.reqtable_candidates.proofs.candidate_order.with_fronts.Given as goal

abbrev pub invariant-loop-place : goal.invariant-loop-place
invariant-loop-place l = map (λ f. placed_seen f.placed) l.fronted.items ≡ enumerate_from 0 (take l.place l.candidates)
