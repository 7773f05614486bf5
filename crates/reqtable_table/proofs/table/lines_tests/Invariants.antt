use Rattle.std.proofs.Common.{◌≡◌, ◌+◌, map, take}
use Rattle.reqtable_table.specs.Counts.{up_to_64_bits, tests_of}
use Rattle.reqtable_table.specs.KeptLines.{line_record}
use Rattle.reqtable_table.proofs.table.lines_tests.Given as goal

abbrev pub invariant-loop-line : goal.invariant-loop-line
invariant-loop-line l = l.tests ≡ up_to_64_bits (l.fn.tests + tests_of (map line_record (take l.line-index l.lines)))
