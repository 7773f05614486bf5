use Rattle.std.proofs.Common.{◌+◌, ◌∙◌, map, ap}
use Rattle.reqtable_table.specs.Counts.{up_to_64_bits, tests_of}
use Rattle.reqtable_table.specs.KeptLines.{line_record}
use Rattle.reqtable_table.proofs.Counting.{packages_more}
use Rattle.reqtable_table.proofs.table.packages_tests.Goals as goal

pub loop-package-preserved : goal.loop-package-preserved
loop-package-preserved c =
    packages_more c.args.packages.now c.loop-package.package-index c.package-item.result c.loop-package.tests c.lines_tests-tests.result
    c.loop-package-test.true c.package-item.is c.loop-package.invariant
    (c.lines_tests-tests.ensures
    ∙ ap (λ lines. up_to_64_bits (c.loop-package.tests + tests_of (map line_record lines))) c.deref.ensures.value)
