use Rattle.pep508_marker_key.specs.Numbering.{AreNumbers}
use Rattle.pep508_marker_key.proofs.Walking.{AreLeft, amount}
use Rattle.pep508_marker_key.proofs.key_walk.key_of_tree.Given as goal

abbrev pub invariant-loop-next : goal.invariant-loop-next
invariant-loop-next l = record {
  left : AreLeft l.interner.nodes l.fn.tree l.key.items l.steps.items l.numbers.trees.items;
  numbers : AreNumbers l.numbers.trees.items l.numbers.places;
}

abbrev pub decreases-loop-next : goal.decreases-loop-next
decreases-loop-next l = amount l.interner.nodes l.steps.items l.numbers.trees.items
