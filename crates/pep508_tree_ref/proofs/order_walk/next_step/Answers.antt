use Rattle.std.proofs.Common.{◌∙◌, sym, arith}
use Rattle.pep508_tree_ref.proofs.Walking.{other_out, end_decides, first_out, both_out}
use Rattle.pep508_tree_ref.proofs.order_walk.next_step.Goals as goal

pub returns-then-other_count-edge : goal.returns-then-other_count-edge
returns-then-other_count-edge c =
    other_out c.args.interner.now.nodes c.are_sound.ensures c.args.tree c.requires.tree
    c.args.other_interner.now.nodes c.are_sound-2.ensures c.args.other c.requires.other c.args.edge c.requires.tie
    (omega (arith, c.root_child_count-count.ensures, c.if-edge-count.true))
    (omega (arith, c.root_child_count-other_count.ensures, c.if-other_count-edge.true))

pub returns-then-is_ne : goal.returns-then-is_ne
returns-then-is_ne c =
    end_decides c.args.interner.now.nodes c.are_sound.ensures c.args.tree c.requires.tree
    c.args.other_interner.now.nodes c.are_sound-2.ensures c.args.other c.requires.other c.args.edge c.requires.tie
    c.in-Some.child c.in-Some-root_child.other_child c.in-Some.ensures.child c.in-Some-root_child.ensures.child
    c.cmp_ends_at-order.result (sym c.is_ne.ensures ∙ c.if-is_ne.true) c.cmp_ends_at-order.ensures

pub returns-then-edge-other_count : goal.returns-then-edge-other_count
returns-then-edge-other_count c =
    first_out c.args.interner.now.nodes c.are_sound.ensures c.args.tree c.requires.tree
    c.args.other_interner.now.nodes c.are_sound-2.ensures c.args.other c.requires.other c.args.edge c.requires.tie
    (omega (arith, c.root_child_count-count.ensures, c.if-edge-count.false))
    (omega (arith, c.root_child_count-other_count.ensures, c.if-edge-other_count.true))

pub returns : goal.returns
returns c =
    c.cmp.ensures
    ∙ both_out c.args.interner.now.nodes c.are_sound.ensures c.args.tree c.requires.tree
    c.args.other_interner.now.nodes c.are_sound-2.ensures c.args.other c.requires.other c.args.edge c.requires.tie
    (omega (arith, c.root_child_count-count.ensures, c.if-edge-count.false))
    (omega (arith, c.root_child_count-other_count.ensures, c.if-edge-other_count.false))
    c.is_false.result c.is_false-2.result c.is_false.ensures c.is_false-2.ensures
