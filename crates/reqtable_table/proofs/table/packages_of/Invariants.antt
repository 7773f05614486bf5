use Rattle.std.proofs.Common.{◌≡◌, ◌≤◌, ◌+◌, ◌*◌, ◌++◌, map, length}
use Rattle.std.specs.List.{AllZip, AllByRecursion}
use Rattle.std.specs.Vec.Iter.{into_iter_items}
use Rattle.pep508_tree.specs.Meaning.{Extends}
use Rattle.pep508_cases.specs.Last.{IsLast}
use Rattle.reqtable_groups.specs.Given.{lines_in}
use Rattle.reqtable_table.specs.KeptLines.{package_record}
use Rattle.reqtable_table.specs.Building.{AreOfTrees, IsPackageOf, IsLeft}
use Rattle.reqtable_table.specs.Cases.{table_cases}
use Rattle.reqtable_table.proofs.table.packages_of.Given as goal

abbrev pub invariant-loop-group : goal.invariant-loop-group
invariant-loop-group l = record {
  keeps : Extends l.fn.interner.nodes l.interner.nodes;
  counts : l.interner.conjunctions ≤ l.fn.interner.conjunctions + 2 * (length (lines_in l.yielded) * l.fn.limits.limit);
  split : l.yielded ++ into_iter_items l.group-iterator ≡ l.fn.groups.items;
  done : AllByRecursion (AreOfTrees l.fn.interner.nodes) l.yielded;
  left : AllByRecursion (AreOfTrees l.fn.interner.nodes) (into_iter_items l.group-iterator);
  made : AllZip (IsPackageOf l.fn.limits.limit l.interner.nodes) l.yielded (map package_record l.packages.items);
  last : IsLast l.interner.nodes l.last;
  limit : l.left.limit ≡ l.fn.limits.limit;
  is_left : IsLeft l.fn.limits.left (table_cases (map package_record l.packages.items)) l.left.left;
}
