use Rattle.std.proofs.Common.{◌≡◌, ◌++◌, map}
use Rattle.std.specs.Vec.Iter.{into_iter_items}
use Rattle.reqtable_candidates.specs.Ordered.{placed_seen}
use Rattle.reqtable_candidates.proofs.candidate_order.without_fronts.Given as goal

abbrev pub invariant-loop-item : goal.invariant-loop-item
invariant-loop-item l = record {
  split : l.yielded ++ into_iter_items l.item-iterator ≡ l.fn.fronted.items;
  seen : map placed_seen l.placed.items ≡ map (λ f. placed_seen f.placed) l.yielded;
}
