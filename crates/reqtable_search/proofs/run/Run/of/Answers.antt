use Rattle.reqtable_search.proofs.Sorted.{run_falls}
use Rattle.reqtable_search.proofs.run.Run.of.Goals as goal

pub invariant_of-result : goal.invariant_of-result
invariant_of-result c = record {
  falls = run_falls c.args.name.now c.args.ordered.now.placed c.run_of-placed.result.now c.placed.ensures.in_order.rising c.run_of-placed.ensures;
  untold_are = c.in_ok-untold.ensures;
  bounded_are = c.in_ok-untold_by_bounds.ensures;
}
