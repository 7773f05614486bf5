use Rattle.std.proofs.Common.{◌∙◌, ◌++◌, ◌∷◌, [], ap}
use Rattle.pep508_diagram.proofs.Pairing.{children_none, children_more, children_all}
use Rattle.pep508_diagram.proofs.branch.paired_children.Goals as goal

pub loop-next-init : goal.loop-next-init
loop-next-init g c =
    children_none g.met.T.Ord.total c.push.new.self.items
    (c.in_ok-push.ensures.items
    ∙ ap (λ ps. ps ++ ((c.args.first, c.args.other_first) ∷ [])) c.new-pairs.ensures.items)
    c.requires.rising c.requires.other_rising

pub loop-next-preserved : goal.loop-next-preserved
loop-next-preserved g c =
    let arm = c.in-Some in
    children_more g.met.T.Ord.total arm.field-0-0.now c.loop-next.child c.loop-next.left.now arm.next.0
    arm.next.1.now c.loop-next.other_child c.loop-next.other_left.now arm.other_next.0 arm.other_next.1.now
    c.loop-next.pairs.items c.push-in-Some.new.self.items c.loop-next.invariant arm.ensures
    c.in_ok-push-2.ensures.items

pub returns : goal.returns
returns g c =
    children_all g.met.T.Ord.total c.loop-next.child c.loop-next.left.now c.loop-next.other_child
    c.loop-next.other_left.now c.loop-next.pairs.items c.loop-next.invariant c.in_default.ensures.0
    c.in_default.ensures.1
