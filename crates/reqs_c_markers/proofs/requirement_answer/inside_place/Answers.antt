use Rattle.std.proofs.Common.{length, ap}
use Rattle.reqs_c_markers.proofs.Places.{stands}
use Rattle.reqs_c_markers.proofs.requirement_answer.inside_place.Goals as goal

pub returns : goal.returns
returns c =
    let inside = c.in_ok-inside.inside in
    stands c.args.left.input.now _ _ inside c.position.result _ c.in_ok-inside.ensures.cases
    c.in_ok-inside.ensures.behind.input inside.between.0 (rw c.rest.ensures at c.rest.utf8) c.position.ensures
    (ap length c.rest.ensures)
