use Rattle.pep508_marker_display.proofs.Grouping.{found_at}
use Rattle.pep508_marker_display.proofs.steps.groups.Goals as goal

pub loop-branch-preserved : goal.loop-branch-preserved
loop-branch-preserved g c =
    found_at c.loop-branch.trees.items c.add_new.new.trees.items c.args.later.now c.loop-branch.branch-index
    c.branch-item.result _ c.loop-branch-test.true c.branch-item.is c.loop-branch.invariant c.in_ok-add_new.ensures
