use Rattle.std.proofs.Common.{◌∙◌, sym}
use Rattle.pep508_tree_ref.proofs.Descending.{less_work_down, differs_here, less_work_back, goes_back}
use Rattle.pep508_tree_ref.proofs.order_walk.try_cmp_trees.Goals as goal

pub walk-smaller-in-Down : goal.walk-smaller-in-Down
walk-smaller-in-Down c =
    less_work_down c.args.interner.now.nodes c.args.other_interner.now.nodes c.args.tree c.args.other
    c.walk.known.keys c.walk.above.items (record { tree = c.walk.tree; other = c.walk.other; edge = c.walk.edge })
    c.walk.invariant c.in-Down.child c.in-Down.other_child c.in-Down.ensures c.push.new.self.items
    c.in_ok-push-in-Down.ensures.items

pub returns-then-is_ne : goal.returns-then-is_ne
returns-then-is_ne c =
    differs_here c.args.interner.now.nodes c.args.other_interner.now.nodes c.args.tree c.args.other
    c.walk.known.keys c.walk.above.items (record { tree = c.walk.tree; other = c.walk.other; edge = c.walk.edge })
    c.walk.invariant c.are_sound.ensures c.are_sound-2.ensures c.in-Decided.order c.in-Decided.ensures
    (sym c.is_ne.ensures ∙ c.if-is_ne.true)

pub walk-smaller : goal.walk-smaller
walk-smaller c =
    less_work_back c.args.interner.now.nodes c.args.other_interner.now.nodes c.args.tree c.args.other
    c.walk.known.keys c.walk.above.items (record { tree = c.walk.tree; other = c.walk.other; edge = c.walk.edge })
    c.walk.invariant c.are_sound.ensures c.are_sound-2.ensures c.in-Decided.order c.in-Decided.ensures
    (sym c.is_ne.ensures ∙ c.if-is_ne.false) c.pop.new.self.items c.in-Some.back c.in-Some.ensures.items

pub walk-preserved : goal.walk-preserved
walk-preserved c =
    goes_back c.args.interner.now.nodes c.args.other_interner.now.nodes c.args.tree c.args.other
    c.walk.known.keys c.walk.above.items (record { tree = c.walk.tree; other = c.walk.other; edge = c.walk.edge })
    c.walk.invariant c.are_sound.ensures c.are_sound-2.ensures c.in-Decided.order c.in-Decided.ensures
    (sym c.is_ne.ensures ∙ c.if-is_ne.false) c.pop.new.self.items c.in-Some.back c.in-Some.ensures.items
    c.keep.new.known.keys
    (c.keep.ensures c.args.interner.now.nodes c.args.other_interner.now.nodes c.walk.invariant.ties
    c.in-Decided.ensures)
