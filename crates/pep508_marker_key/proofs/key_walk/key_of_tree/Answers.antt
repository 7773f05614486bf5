use Rattle.std.proofs.Common.{arith}
use Rattle.pep508_marker_key.proofs.Walking.{first_left, next_made, still_left, less_left, none_left}
use Rattle.pep508_marker_key.proofs.key_walk.key_of_tree.Goals as goal

pub loop-next-init : goal.loop-next-init
loop-next-init c = record {
  left = first_left c.args.interner.now.nodes c.args.tree c.new-key.result.items c.in_ok-steps.steps.items
      c.new-numbers.result.trees.items c.requires c.new-key.ensures.items c.in_ok-steps.ensures.items
      c.new-numbers.ensures.none;
  numbers = c.new-numbers.ensures.numbers;
}

pub make_step-requires-clause-step : goal.make_step-requires-clause-step
make_step-requires-clause-step c =
    next_made c.args.interner.now.nodes c.args.tree c.loop-next.key.items c.loop-next.key.items
    c.loop-next.steps.items c.pop.new.self.items c.loop-next.steps.items c.in-Some.next c.in-Some.ensures.items
    c.loop-next.numbers.trees.items c.loop-next.numbers.trees.items c.loop-next.invariant.left

pub loop-next-smaller : goal.loop-next-smaller
loop-next-smaller c =
    less_left c.args.interner.now.nodes c.args.tree c.loop-next.key.items c.make_step.new.key.items
    c.loop-next.steps.items c.pop.new.self.items c.make_step.new.steps.items c.in-Some.next
    c.in-Some.ensures.items c.loop-next.numbers.trees.items c.make_step.new.numbers.trees.items
    c.loop-next.invariant.left c.in_ok-make_step.ensures.made

pub loop-next-preserved : goal.loop-next-preserved
loop-next-preserved c = record {
  left = still_left c.args.interner.now.nodes c.args.tree c.loop-next.key.items c.make_step.new.key.items
      c.loop-next.steps.items c.pop.new.self.items c.make_step.new.steps.items c.in-Some.next
      c.in-Some.ensures.items c.loop-next.numbers.trees.items c.make_step.new.numbers.trees.items
      c.loop-next.invariant.left c.in_ok-make_step.ensures.made;
  numbers = c.in_ok-make_step.ensures.numbers;
}

pub returns : goal.returns
returns c =
    none_left c.args.interner.now.nodes c.args.tree c.loop-next.key.items c.loop-next.steps.items
    c.loop-next.numbers.trees.items (omega (arith, c.loop-next.steps.ok, c.in_default.ensures.cases.0))
    c.loop-next.invariant.left
