use Rattle.pep508_leaf_diagram.specs.Walks.{IsBoth}
use Rattle.pep508_leaf_diagram.proofs.Walking.{meet_more}
use Rattle.pep508_leaf_diagram.proofs.merge_walk.Walk.get_all.Goals as goal

pub loop-pair-preserved : goal.loop-pair-preserved
loop-pair-preserved c = λ inner a b walk.
    meet_more (λ pair child. IsBoth inner a b c.args.self.now.nodes.items c.args.self.now.leaves.items pair.0 pair.1 child)
    c.args.pairs.now c.loop-pair.children.items c.push.new.self.items c.loop-pair.pair-index c.pair-item.result
    c.in-Some.child (c.loop-pair.invariant inner a b walk) c.loop-pair-test.true c.pair-item.is
    (c.in-Some.ensures inner a b walk) c.in_ok-push-in-Some.ensures.items
