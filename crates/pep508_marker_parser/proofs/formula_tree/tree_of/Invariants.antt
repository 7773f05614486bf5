use Rattle.std.proofs.Common.{◌≡◌, length, reverse}
use Rattle.pep508_tree.specs.Meaning.{Extends}
use Rattle.pep508_formula.specs.Postfix.{parts_in}
use Rattle.pep508_marker_parser.proofs.FormulaTrees.{IsMaking}
use Rattle.pep508_marker_parser.proofs.formula_tree.tree_of.Given as goal

abbrev pub invariant-loop-part : goal.invariant-loop-part
invariant-loop-part l = record {
  making : IsMaking l.interner.nodes l.formula (parts_in l.left) (reverse l.stack.items);
  keeps : Extends l.fn.interner.nodes l.interner.nodes;
  counts : l.interner.conjunctions ≡ l.fn.interner.conjunctions;
}

abbrev pub decreases-loop-part : goal.decreases-loop-part
decreases-loop-part l = length (parts_in l.left)
