use Rattle.std.proofs.Common.{◌≡◌, map, drop}
use Rattle.std.specs.List.{list_all}
use Rattle.serde_json.specs.View.{view}
use Rattle.reqs_io_faults.specs.Inputs.{is_object}
use Rattle.reqs_io_faults.proofs.environments.are_objects.Given as goal

-- what is left is objects where all are
abbrev pub invariant-loop-value : goal.invariant-loop-value
invariant-loop-value l =
    list_all is_object (map view (drop l.value-index l.values)) ≡ list_all is_object (map view l.values)
