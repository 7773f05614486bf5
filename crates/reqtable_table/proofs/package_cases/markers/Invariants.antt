use Rattle.std.proofs.Common.{◌≡◌, map, take}
use Rattle.reqtable_table.proofs.package_cases.markers.Given as goal

abbrev pub invariant-loop-line : goal.invariant-loop-line
invariant-loop-line l = l.markers.items ≡ map (λ line. line.marker) (take l.line-index l.lines)
