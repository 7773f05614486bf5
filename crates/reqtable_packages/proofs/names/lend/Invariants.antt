use Rattle.std.proofs.Common.{◌≡◌, ◌++◌, map, take}
use Rattle.reqtable_table.specs.Given.{names_of}
use Rattle.reqtable_packages.proofs.names.lend.Given as goal

abbrev pub invariant-loop-line : goal.invariant-loop-line
invariant-loop-line l =
    map (λ name. name.now) l.names.items
    ≡ map (λ name. name.now) l.fn.names.items ++ names_of (take l.line-index l.lines)
