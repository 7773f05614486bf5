use Rattle.reqs_c_markers.proofs.Within.{tree_read, tree_refused, nodes_refused}
use Rattle.reqs_c_markers.proofs.marker_answers.read_marker.Goals as goal

pub returns-clause-tree : goal.returns-clause-tree
returns-clause-tree c =
    tree_read c.tree_of-made.new.interner.nodes c.args.bytes.now _ _ c.tree_within.result c.in_ok-formula.ensures.formula
    c.tree_within.ensures.same c.tree_of-made.ensures.made

pub returns-clause-none : goal.returns-clause-none
returns-clause-none c =
    tree_refused c.args.input c.args.most c.args.bytes.now c.tree_of-made.new.interner.nodes _ c.tree_within.result
    c.in_ok-formula.ensures.formula c.tree_within.ensures.none

pub returns-clause-past : goal.returns-clause-past
returns-clause-past c =
    nodes_refused c.args.input c.args.most c.args.bytes.now c.tree_of-made.new.interner.nodes _ c.tree_within.result
    c.in_ok-formula.ensures.formula c.tree_within.ensures.none
