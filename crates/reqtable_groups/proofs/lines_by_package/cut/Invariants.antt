use Rattle.std.proofs.Common.{◌≡◌, ◌++◌}
use Rattle.std.specs.Vec.Iter.{into_iter_items}
use Rattle.reqtable_groups.specs.Given.{AreSoFar}
use Rattle.reqtable_groups.proofs.lines_by_package.cut.Given as goal

abbrev pub invariant-loop-line : goal.invariant-loop-line
invariant-loop-line l = record {
  split : l.yielded ++ into_iter_items l.line-iterator ≡ l.fn.lines.items;
  so : AreSoFar l.yielded l.groups.items;
}
