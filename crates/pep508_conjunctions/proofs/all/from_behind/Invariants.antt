use Rattle.std.proofs.Common.{◌≡◌, ◌&&◌, length}
use Rattle.std.specs.List.{AllByRecursion}
use Rattle.pep508_diagram.specs.Question.{Valuation}
use Rattle.pep508_tree.specs.Meaning.{IsTree, Extends, holds}
use Rattle.pep508_conjunctions.specs.Sources.{all_hold}
use Rattle.pep508_conjunctions.proofs.all.from_behind.Given as goal

abbrev pub invariant-loop-last : goal.invariant-loop-last
invariant-loop-last l = record {
  made : IsTree l.interner.nodes l.whole;
  left_made : AllByRecursion (IsTree l.fn.interner.nodes) l.left;
  truth : (v : Valuation)
      → (holds l.interner.nodes l.whole v && all_hold l.fn.interner.nodes l.negated l.left v)
      ≡ all_hold l.fn.interner.nodes l.negated l.fn.trees v;
  keeps : Extends l.fn.interner.nodes l.interner.nodes;
  counts : l.interner.conjunctions ≡ l.fn.interner.conjunctions;
}

abbrev pub decreases-loop-last : goal.decreases-loop-last
decreases-loop-last l = length l.left
