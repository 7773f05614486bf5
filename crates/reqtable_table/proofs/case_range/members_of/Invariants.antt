use Rattle.std.proofs.Common.{◌≡◌, take}
use Rattle.std.specs.List.{flat_map}
use Rattle.reqtable_range.specs.Together.{lent}
use Rattle.reqtable_table.specs.KeptLines.{lent_lines}
use Rattle.reqtable_table.proofs.case_range.members_of.Given as goal

abbrev pub invariant-loop-line : goal.invariant-loop-line
invariant-loop-line l =
    lent l.members.items ≡ flat_map (λ line. line.specifiers.members) (lent_lines (take l.line-index l.lines))
