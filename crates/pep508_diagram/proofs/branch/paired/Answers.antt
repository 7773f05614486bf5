use Rattle.pep508_diagram.proofs.Pairing.{passing_more, passing_all}
use Rattle.pep508_diagram.proofs.branch.paired.Goals as goal

pub loop-boundary-preserved : goal.loop-boundary-preserved
loop-boundary-preserved g c =
    let arm = c.in-Some in
    passing_more g.met.T.Ord.total arm.boundary.now c.loop-boundary.child c.loop-boundary.left.now arm.next.0
    arm.next.1.now c.loop-boundary.other_child c.loop-boundary.other_left.now arm.other_next.0 arm.other_next.1.now
    c.loop-boundary.pairs.items c.push.new.self.items c.in_ok-copy_of_boundary.field-0 c.loop-boundary.invariant arm.ensures
    c.in_ok-copy_of_boundary.ensures c.in_ok-push.ensures.items

pub returns-clause-points : goal.returns-clause-points
returns-clause-points g c =
    (passing_all g.met.T.Ord.total c.loop-boundary.child c.loop-boundary.left.now c.loop-boundary.other_child
    c.loop-boundary.other_left.now c.loop-boundary.pairs.items c.loop-boundary.invariant c.in_default.ensures.0
    c.in_default.ensures.1).points

pub returns-clause-rises : goal.returns-clause-rises
returns-clause-rises g c =
    (passing_all g.met.T.Ord.total c.loop-boundary.child c.loop-boundary.left.now c.loop-boundary.other_child
    c.loop-boundary.other_left.now c.loop-boundary.pairs.items c.loop-boundary.invariant c.in_default.ensures.0
    c.in_default.ensures.1).rises

pub returns-clause-children : goal.returns-clause-children
returns-clause-children g c =
    (passing_all g.met.T.Ord.total c.loop-boundary.child c.loop-boundary.left.now c.loop-boundary.other_child
    c.loop-boundary.other_left.now c.loop-boundary.pairs.items c.loop-boundary.invariant c.in_default.ensures.0
    c.in_default.ensures.1).children
