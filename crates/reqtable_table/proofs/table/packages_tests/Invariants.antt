use Rattle.std.proofs.Common.{◌≡◌, map, take}
use Rattle.reqtable_table.specs.Counts.{table_tests}
use Rattle.reqtable_table.specs.KeptLines.{package_record}
use Rattle.reqtable_table.proofs.table.packages_tests.Given as goal

abbrev pub invariant-loop-package : goal.invariant-loop-package
invariant-loop-package l = l.tests ≡ table_tests (map package_record (take l.package-index l.packages))
