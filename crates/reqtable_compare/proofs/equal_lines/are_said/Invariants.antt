use Rattle.std.proofs.Common.{take}
use Rattle.reqtable_packages.specs.Packages.{lent}
use Rattle.reqtable_compare.specs.Settled.{AreSaidIn}
use Rattle.reqtable_compare.proofs.equal_lines.are_said.Given as goal

abbrev pub invariant-loop-line : goal.invariant-loop-line
invariant-loop-line l = AreSaidIn (lent l.others) (lent (take l.line-index l.lines))
