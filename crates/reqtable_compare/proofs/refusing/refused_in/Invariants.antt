use Rattle.std.proofs.Common.{◌≡◌, drop, None}
use Rattle.reqtable_compare.specs.RefusedLines.{lines_refusal}
use Rattle.reqtable_compare.proofs.refusing.refused_in.Given as goal

abbrev pub invariant-loop-line : goal.invariant-loop-line
invariant-loop-line l =
    lines_refusal l.fn.side (drop l.line-index l.lines) None ≡ lines_refusal l.fn.side l.lines None
