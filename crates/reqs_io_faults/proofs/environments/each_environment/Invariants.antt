use Rattle.std.proofs.Common.{◌≡◌, ◌+◌, map, drop}
use Rattle.serde_json.specs.View.{view}
use Rattle.reqs_io_faults.specs.Inputs.{environments_of}
use Rattle.reqs_io_faults.proofs.EachEnvironment.{behind}
use Rattle.reqs_io_faults.proofs.environments.each_environment.Given as goal

abbrev pub invariant-loop-place : goal.invariant-loop-place
invariant-loop-place l =
    behind l.environments.items (environments_of l.input (l.place + 1) (map view (drop l.place l.values)))
    ≡ environments_of l.input 1 (map view l.values)
