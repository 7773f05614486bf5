use Rattle.std.proofs.Common.{string_bytes, take}
use Rattle.reqtable_normal.proofs.Standing.{AreWritten}
use Rattle.reqtable_normal.proofs.lines.normal_text.Given as goal

abbrev pub invariant-loop-line : goal.invariant-loop-line
invariant-loop-line l = AreWritten l.interner.nodes l.most_clauses (take l.line-index l.line-items) (string_bytes l.text)
