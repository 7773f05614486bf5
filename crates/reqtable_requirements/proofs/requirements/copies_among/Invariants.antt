use Rattle.std.proofs.Common.{map, take}
use Rattle.std.specs.List.{AllZip}
use Rattle.reqtable_requirements.specs.Copies.{IsLineCopy, lines_among}
use Rattle.reqtable_requirements.proofs.requirements.copies_among.Given as goal

abbrev pub invariant-loop-line : goal.invariant-loop-line
invariant-loop-line l =
    AllZip IsLineCopy l.copies.items (lines_among (map (λ name. name.now) l.names) (take l.line-index l.lines))
