use Rattle.std.proofs.Common.{◌∙◌, sym}
use Rattle.version_ranges.proofs.Comparing.{compare_end, compare_first, compare_behind}
use Rattle.version_ranges.proofs.order.compare_boundaries.Goals as goal

pub returns-in-None-Some : goal.returns-in-None-Some
returns-in-None-Some g c =
    let arm = c.in-None-Some in
    c.when_first_ends.ensures
    ∙ compare_end g.T.Ord.cmp c.loop-boundary.inside arm.field-0-1.0.now arm.field-0-1.1.now
    c.loop-boundary.left.now
    c.loop-boundary.right.now arm.ensures.cases arm.ensures'.cases.0
    ∙ c.loop-boundary.invariant

pub returns-in_default : goal.returns-in_default
returns-in_default g c =
    let arm = c.in-Some-Some in
    compare_first g.T.Ord.cmp c.loop-boundary.inside arm.boundary.now arm.other.now arm.behind.now
    arm.other_behind.now
    c.loop-boundary.left.now c.loop-boundary.right.now arm.ensures.cases.0 arm.ensures'.cases.0 c.cmp.result
    c.cmp.ensures
    c.in_default.not-Equal
    ∙ c.loop-boundary.invariant

pub loop-boundary-preserved : goal.loop-boundary-preserved
loop-boundary-preserved g c =
    let arm = c.in-Some-Some in
    compare_behind g.T.Ord.cmp c.loop-boundary.inside arm.boundary.now arm.other.now arm.behind.now
    arm.other_behind.now
    c.loop-boundary.left.now c.loop-boundary.right.now arm.ensures.cases.0 arm.ensures'.cases.0
    (sym c.in-Equal.ensures)
    ∙ c.loop-boundary.invariant
