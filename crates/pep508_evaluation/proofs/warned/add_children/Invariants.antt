use Rattle.std.proofs.Common.{◌≡◌, ◌≤◌, ◌++◌, drop, length, reverse}
use Rattle.pep508_tree.specs.Roots.{root_of}
use Rattle.pep508_evaluation.specs.Steps.{children_of}
use Rattle.pep508_evaluation.proofs.warned.add_children.Given as goal

abbrev pub invariant-loop-left : goal.invariant-loop-left
invariant-loop-left l = record {
  within : l.left ≤ length (children_of (root_of l.interner.nodes l.tree));
  added : l.waiting.items
      ≡ l.fn.waiting.items ++ reverse (drop l.left (children_of (root_of l.interner.nodes l.tree)));
}

abbrev pub decreases-loop-left : goal.decreases-loop-left
decreases-loop-left l = l.left
