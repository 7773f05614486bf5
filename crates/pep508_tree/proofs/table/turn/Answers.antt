use Rattle.std.proofs.Common.{◌∙◌, ap, get_or, set}
use Rattle.pep508_tree.specs.Nodes.{turned_branch}
use Rattle.pep508_tree.proofs.Joins.{change_more}
use Rattle.pep508_tree.proofs.table.turn.Goals as goal

pub loop-branch-preserved : goal.loop-branch-preserved
loop-branch-preserved g c =
    let item = get_or c.loop-branch.later c.loop-branch.branch-index c.branch-item.result in
    ap (λ child. set c.loop-branch.later c.loop-branch.branch-index
    (record { boundary = item.boundary; child = child }))
    c.negate-branch.ensures
    ∙ change_more turned_branch c.branch-item.result c.args.later.now c.loop-branch.later
    c.loop-branch.branch-index
    c.loop-branch-test.true c.loop-branch.invariant
