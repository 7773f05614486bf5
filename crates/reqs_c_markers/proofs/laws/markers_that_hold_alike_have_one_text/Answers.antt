use Rattle.reqs_c_markers.proofs.ReadBack.{one_text}
use Rattle.reqs_c_markers.proofs.laws.markers_that_hold_alike_have_one_text.Goals as goal

pub returns : goal.returns
returns c = one_text
