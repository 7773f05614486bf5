use Rattle.std.proofs.Common.{◌≡◌, ◌++◌, length}
use Rattle.std.specs.List.{AllZip}
use Rattle.std.specs.Vec.Iter.{into_iter_items, into_iter_len}
use Rattle.pep508_tree.specs.Meaning.{Extends}
use Rattle.reqtable_assumption.specs.Restricted.{IsRestricted}
use Rattle.reqtable_assumption.proofs.assuming.restricted_lines.Given as goal

abbrev pub invariant-loop-line : goal.invariant-loop-line
invariant-loop-line l = record {
  split : l.yielded ++ into_iter_items l.line-iterator ≡ l.fn.lines.items;
  counted : into_iter_len l.line-iterator ≡ length (into_iter_items l.line-iterator);
  keeps : Extends l.fn.interner.nodes l.interner.nodes;
  made : AllZip (IsRestricted l.fn.interner.nodes l.interner.nodes l.fn.condition) l.made.items l.yielded;
}
