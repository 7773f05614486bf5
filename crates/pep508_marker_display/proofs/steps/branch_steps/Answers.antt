use Rattle.std.proofs.Common.{◌∙◌, ◌++◌, ap}
use Rattle.pep508_clauses.specs.Terms.{clauses_shown}
use Rattle.pep508_marker_display.specs.Steps.{steps_shown, steps_to}
use Rattle.pep508_marker_display.proofs.Adding.{group_at}
use Rattle.pep508_marker_display.proofs.steps.branch_steps.Goals as goal

pub loop-tree-preserved : goal.loop-tree-preserved
loop-tree-preserved g c =
    group_at (g.S.Says.saying c.args.says.now) c.args.first c.args.later.now c.args.negated _
    c.loop-tree.tree-index c.tree-item.result (steps_shown c.loop-tree.steps.items)
    (steps_shown c.add_all.new.steps.items) _ (clauses_shown c.in_ok-clauses.clauses.items) c.loop-tree-test.true
    c.tree-item.is c.loop-tree.invariant c.in_ok-clauses.ensures
    (c.in_ok-add_all.ensures
    ∙ ap (λ tree. steps_shown c.loop-tree.steps.items ++ steps_to tree (clauses_shown c.in_ok-clauses.clauses.items))
    c.turned.ensures)
