use Rattle.reqs_c_lists.specs.Holding.{together}
use Rattle.reqs_c_lists.proofs.holding.held_with.Goals as goal

pub returns-in-Ok-marks : goal.returns-in-Ok-marks
returns-in-Ok-marks c = record {
  read = together c.in-Ok.names.items c.in-Ok.environment;
  is_read = c.in-Ok.ensures;
  is_text = rw c.deref.ensures.value at c.in-Ok-marks.ensures;
}
