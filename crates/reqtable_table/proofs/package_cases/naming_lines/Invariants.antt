use Rattle.std.proofs.Common.{◌≡◌, map, take}
use Rattle.reqtable_table.specs.Casing.{is_naming}
use Rattle.reqtable_table.proofs.package_cases.naming_lines.Given as goal

abbrev pub invariant-loop-line : goal.invariant-loop-line
invariant-loop-line l = l.marks.items ≡ map is_naming (take l.line-index l.lines)
