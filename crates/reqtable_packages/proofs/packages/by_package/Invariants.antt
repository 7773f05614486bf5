use Rattle.std.proofs.Common.{◌≡◌, ℕ, List, take}
use Rattle.reqtable_packages.specs.Packages.{lines_at, lines_under}
use Rattle.reqtable_packages.proofs.packages.by_package.Given as goal

abbrev pub invariant-loop-line : goal.invariant-loop-line
invariant-loop-line l = (q : List ℕ) → lines_at l.groups q ≡ lines_under q (take l.line-index l.lines)
