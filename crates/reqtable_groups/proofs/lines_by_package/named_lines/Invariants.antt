use Rattle.std.proofs.Common.{◌≡◌, ◌++◌, map}
use Rattle.std.specs.Vec.Iter.{into_iter_items}
use Rattle.reqtable_groups.specs.Given.{named_by}
use Rattle.reqtable_groups.proofs.lines_by_package.named_lines.Given as goal

abbrev pub invariant-loop-line : goal.invariant-loop-line
invariant-loop-line l = record {
  split : l.yielded ++ into_iter_items l.line-iterator ≡ l.fn.lines.items;
  named : l.named.items ≡ map named_by l.yielded;
}
