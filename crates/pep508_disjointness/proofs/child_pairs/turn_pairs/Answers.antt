use Rattle.std.proofs.Common.{◌∙◌, ap₂, set}
use Rattle.pep508_disjointness.specs.Pairs.{turned_pair}
use Rattle.pep508_tree.proofs.Joins.{change_more}
use Rattle.pep508_disjointness.proofs.child_pairs.turn_pairs.Goals as goal

pub loop-pair-preserved : goal.loop-pair-preserved
loop-pair-preserved c =
    ap₂ (λ x y. set c.loop-pair.pairs c.loop-pair.pair-index (x, y)) c.turned.ensures c.turned-in-loop-pair.ensures
    ∙ change_more (turned_pair c.args.first c.args.second) c.pair-item.result c.args.pairs.now c.loop-pair.pairs
    c.loop-pair.pair-index
    c.loop-pair-test.true c.loop-pair.invariant
