use Rattle.serde_json.specs.View.{view}
use Rattle.reqs_io_faults.proofs.EachEnvironment.{one_more}
use Rattle.reqs_io_faults.proofs.environments.each_environment.Goals as goal

pub loop-place-preserved : goal.loop-place-preserved
loop-place-preserved c =
    rw c.in_ok-push-in-Ok.ensures.items
    (one_more view c.args.input c.args.values.now c.loop-place.place c.loop-place.environments.items _ c.loop-place.invariant
    c.index-values-place.result c.loop-place-test.true c.index-values-place.is c.in-Ok.environment c.in-Ok.ensures)
