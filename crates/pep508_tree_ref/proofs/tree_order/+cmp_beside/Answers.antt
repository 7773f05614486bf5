use Rattle.std.proofs.Common.{◌∙◌, sym, arith}
use Rattle.pep508_tree_ref.proofs.Walking.{other_out, end_decides, child_decides, next_tie, first_out}
use Rattle.pep508_tree_ref.proofs.Walking.{both_out}
use Rattle.pep508_tree_ref.proofs.tree_order.+cmp_beside.Goals as goal

pub returns-then-other_count-index-clause-order : goal.returns-then-other_count-index-clause-order
returns-then-other_count-index-clause-order t c =
    other_out c.args.interner.now.nodes c.are_sound.ensures c.args.tree c.requires.tree
    c.args.other_interner.now.nodes c.are_sound-2.ensures c.args.other c.requires.other c.loop-index.index
    c.loop-index.invariant.0
    (omega (arith, c.root_child_count-count.ensures, c.loop-index-test.true))
    (omega (arith, c.root_child_count-other_count.ensures, c.if-other_count-index.true))

pub returns-then-is_ne-clause-order : goal.returns-then-is_ne-clause-order
returns-then-is_ne-clause-order t c =
    end_decides c.args.interner.now.nodes c.are_sound.ensures c.args.tree c.requires.tree
    c.args.other_interner.now.nodes c.are_sound-2.ensures c.args.other c.requires.other c.loop-index.index
    c.loop-index.invariant.0 c.in-Some.child c.in-Some-root_child.other_child c.in-Some.ensures.child
    c.in-Some-root_child.ensures.child c.cmp_ends_at-order.result (sym c.is_ne.ensures ∙ c.if-is_ne.true)
    c.cmp_ends_at-order.ensures

pub returns-then-is_ne-2-clause-order : goal.returns-then-is_ne-2-clause-order
returns-then-is_ne-2-clause-order t c =
    child_decides c.args.interner.now.nodes c.are_sound.ensures c.args.tree c.requires.tree
    c.args.other_interner.now.nodes c.are_sound-2.ensures c.args.other c.requires.other c.loop-index.index
    c.loop-index.invariant.0 c.in-Some.child c.in-Some-root_child.other_child c.in-Some.ensures.child
    c.in-Some-root_child.ensures.child c.cmp_ends_at-order.result (sym c.is_ne.ensures ∙ c.if-is_ne.false)
    c.cmp_ends_at-order.ensures
    c.cmp_beside-order.result c.cmp_beside-order.ensures.order
    (sym c.is_ne-in-loop-index.ensures ∙ c.if-is_ne-2.true)

pub loop-index-preserved : goal.loop-index-preserved
loop-index-preserved t c = (
  next_tie c.args.interner.now.nodes c.are_sound.ensures c.args.tree c.requires.tree
      c.args.other_interner.now.nodes c.are_sound-2.ensures c.args.other c.requires.other c.loop-index.index
      c.loop-index.invariant.0 c.in-Some.child c.in-Some-root_child.other_child c.in-Some.ensures.child
      c.in-Some-root_child.ensures.child c.cmp_ends_at-order.result (sym c.is_ne.ensures ∙ c.if-is_ne.false)
      c.cmp_ends_at-order.ensures
      c.cmp_beside-order.result c.cmp_beside-order.ensures.order
      (sym c.is_ne-in-loop-index.ensures ∙ c.if-is_ne-2.false),
  c.cmp_beside-order.ensures.known,
)

pub returns-then-count-other_count-clause-order : goal.returns-then-count-other_count-clause-order
returns-then-count-other_count-clause-order t c =
    first_out c.args.interner.now.nodes c.are_sound.ensures c.args.tree c.requires.tree
    c.args.other_interner.now.nodes c.are_sound-2.ensures c.args.other c.requires.other c.loop-index.index
    c.loop-index.invariant.0 (omega (arith, c.loop-index-test.false, c.root_child_count-count.ensures))
    (omega (
      arith,
      c.loop-index.auto.index-end,
      c.root_child_count-count.ensures,
      c.root_child_count-other_count.ensures,
      c.if-count-other_count.true,
    ))

pub returns-clause-order : goal.returns-clause-order
returns-clause-order t c =
    c.cmp-order.ensures
    ∙ both_out c.args.interner.now.nodes c.are_sound.ensures c.args.tree c.requires.tree
    c.args.other_interner.now.nodes c.are_sound-2.ensures c.args.other c.requires.other c.loop-index.index
    c.loop-index.invariant.0 (omega (arith, c.loop-index-test.false, c.root_child_count-count.ensures))
    (omega (arith, c.loop-index-test.false, c.root_child_count-other_count.ensures, c.if-count-other_count.false))
    c.is_false.result c.is_false-2.result c.is_false.ensures c.is_false-2.ensures

pub returns-clause-known : goal.returns-clause-known
returns-clause-known t c =
    c.keep.ensures c.args.interner.now.nodes c.args.other_interner.now.nodes c.loop-index.invariant.1
    (returns-clause-order t c)
