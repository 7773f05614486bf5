use Rattle.std.proofs.Common.{arith}
use Rattle.std.proofs.lemmas.Grind.{text_groups}
use Rattle.reqtable_packages.proofs.packages.by_package.Goals as goal

pub loop-line-preserved : goal.loop-line-preserved
loop-line-preserved c = λ q. grind (arith, text_groups, c.loop-line.invariant q, c.in_ok-add.ensures q)
