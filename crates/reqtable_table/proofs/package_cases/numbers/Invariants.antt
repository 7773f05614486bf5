use Rattle.std.proofs.Common.{◌≡◌, map, take}
use Rattle.reqtable_table.proofs.package_cases.numbers.Given as goal

abbrev pub invariant-loop-line : goal.invariant-loop-line
invariant-loop-line l = l.numbers.items ≡ map (λ line. line.number) (take l.line-index l.lines)
