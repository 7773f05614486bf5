use Rattle.std.proofs.Common.{◌≡◌, ◌≤◌, ◌++◌, length}
use Rattle.std.specs.List.{AllZip}
use Rattle.std.specs.Vec.Iter.{into_iter_items, into_iter_len}
use Rattle.pep508_tree.specs.Meaning.{Extends}
use Rattle.reqtable_requirements.proofs.Lines.{HasTree}
use Rattle.reqtable_requirements.proofs.requirements.with_trees.Given as goal

abbrev pub invariant-loop-line : goal.invariant-loop-line
invariant-loop-line l = record {
  split : l.yielded ++ into_iter_items l.line-iterator ≡ l.fn.lines.items;
  counted : into_iter_len l.line-iterator ≡ length (into_iter_items l.line-iterator);
  keeps : Extends l.fn.interner.nodes l.interner.nodes;
  counts : l.interner.conjunctions ≡ l.fn.interner.conjunctions;
  fits : length l.interner.nodes ≤ l.fn.most;
  made : AllZip (HasTree l.interner.nodes) l.made.items l.yielded;
}
