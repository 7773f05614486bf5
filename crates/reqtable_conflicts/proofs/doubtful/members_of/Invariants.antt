use Rattle.std.proofs.Common.{◌≡◌, take}
use Rattle.std.specs.List.{flat_map}
use Rattle.reqtable_range.specs.Together as together
use Rattle.reqtable_requirements.specs.LineSpecifiers.{specifiers_in}
use Rattle.reqtable_packages.specs.Packages.{lent}
use Rattle.reqtable_conflicts.proofs.doubtful.members_of.Given as goal

abbrev pub invariant-loop-line : goal.invariant-loop-line
invariant-loop-line l = together.lent l.members.items ≡ flat_map specifiers_in (lent (take l.line-index l.lines))
