use Rattle.std.proofs.Common.{sym, subst}
use Rattle.pep508_questions.proofs.Walking.{AreLeft, last_made, left_on, left_falls, below_by_index}
use Rattle.pep508_questions.proofs.question_walk.asked_of_tree.Goals as goal

pub look_at-requires : goal.look_at-requires
look_at-requires c =
    last_made c.args.interner.now.nodes c.args.tree c.loop-next.left.entries c.pop_last.new.self.entries _
    c.in-Some.ensures.removal c.loop-next.asked c.loop-next.invariant

pub loop-next-smaller : goal.loop-next-smaller
loop-next-smaller c =
    left_falls c.args.interner.now.nodes c.args.tree c.loop-next.left.entries c.pop_last.new.self.entries _
    c.in-Some.ensures.removal c.loop-next.asked c.loop-next.invariant
    (below_by_index _ c.pop_last.new.self.entries c.in-Some.ensures.all_below) c.look_at.new.left.entries _
    c.in_ok-look_at.ensures

pub loop-next-preserved : goal.loop-next-preserved
loop-next-preserved c =
    subst (AreLeft c.args.interner.now.nodes c.args.tree c.look_at.new.left.entries)
    (sym c.either-asked.ensures)
    (left_on c.args.interner.now.nodes c.args.tree c.loop-next.left.entries c.pop_last.new.self.entries _
    c.in-Some.ensures.removal c.loop-next.asked c.loop-next.invariant c.look_at.new.left.entries _
    c.in_ok-look_at.ensures)
