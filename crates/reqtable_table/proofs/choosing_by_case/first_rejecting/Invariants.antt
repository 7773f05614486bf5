use Rattle.reqtable_table.proofs.MarkedAsks.{AreAsked}
use Rattle.reqtable_table.proofs.choosing_by_case.first_rejecting.Given as goal

abbrev pub invariant-loop-index : goal.invariant-loop-index
invariant-loop-index l = AreAsked l.version l.marks l.fn.lines l.lines l.index
