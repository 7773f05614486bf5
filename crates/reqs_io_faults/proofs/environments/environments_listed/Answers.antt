use Rattle.std.proofs.Common.{◌∙◌, map, sym, refl}
use Rattle.serde_json.specs.View.{view}
use Rattle.reqs_io_faults.proofs.EachEnvironment.{listed_is}
use Rattle.reqs_io_faults.proofs.environments.environments_listed.Goals as goal

pub returns-then-are_objects : goal.returns-then-are_objects
returns-then-are_objects c =
    rw (listed_is (map view c.args.values.now), sym c.are_objects.ensures ∙ c.if-are_objects.true) c.each_environment.ensures

pub returns-else-are_objects : goal.returns-else-are_objects
returns-else-are_objects c =
    rw (listed_is (map view c.args.values.now), sym c.are_objects.ensures ∙ c.if-are_objects.false) (tt, refl)
