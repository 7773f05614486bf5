use Rattle.std.proofs.Common.{◌≡◌, ◌++◌, map}
use Rattle.std.specs.Vec.Iter.{into_iter_items}
use Rattle.reqtable_table.specs.KeptLines.{kept_by, line_record}
use Rattle.reqtable_table.proofs.kept.kept_lines.Given as goal

abbrev pub invariant-loop-line : goal.invariant-loop-line
invariant-loop-line l = record {
  split : l.yielded ++ into_iter_items l.line-iterator ≡ l.fn.lines.items;
  kept : map line_record l.kept.items ≡ map kept_by l.yielded;
}
