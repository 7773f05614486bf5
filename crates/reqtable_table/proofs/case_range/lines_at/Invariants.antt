use Rattle.std.proofs.Common.{◌≡◌, map, take}
use Rattle.reqtable_table.specs.KeptLines.{line_record, lent_lines}
use Rattle.reqtable_table.specs.Numbered.{lines_at}
use Rattle.reqtable_table.proofs.case_range.lines_at.Given as goal

abbrev pub invariant-loop-number : goal.invariant-loop-number
invariant-loop-number l =
    lent_lines l.own.items ≡ lines_at (take l.number-index l.numbers) (map line_record l.lines)
