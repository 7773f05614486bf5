use Rattle.pep508_disjointness.proofs.Looking.{left_on, left_falls, all_by_index}
use Rattle.pep508_disjointness.proofs.disjointness.are_disjoint.Goals as goal

pub loop-asked-smaller : goal.loop-asked-smaller
loop-asked-smaller c =
    left_falls c.args.interner.now.nodes c.args.a c.args.b c.loop-asked.left.keys c.pop_last.new.self.keys
    c.in-Some.asked
    c.in-Some.ensures.removal c.loop-asked.invariant
    (all_by_index _ c.pop_last.new.self.keys c.in-Some.ensures.all_below) c.look_at.new.left.keys
    (c.in_ok-look_at.ensures.on c.if-not-branch.false)

pub loop-asked-preserved : goal.loop-asked-preserved
loop-asked-preserved c =
    left_on c.args.interner.now.nodes c.args.a c.args.b c.loop-asked.left.keys c.pop_last.new.self.keys
    c.in-Some.asked
    c.in-Some.ensures.removal c.loop-asked.invariant c.look_at.new.left.keys
    (c.in_ok-look_at.ensures.on c.if-not-branch.false)
