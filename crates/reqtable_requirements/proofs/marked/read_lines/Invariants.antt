use Rattle.reqtable_candidates.proofs.Lines.{lines_of}
use Rattle.reqtable_requirements.proofs.Lines.{AreReadOf}
use Rattle.reqtable_requirements.proofs.marked.read_lines.Given as goal

abbrev pub invariant-loop-index : goal.invariant-loop-index
invariant-loop-index l = record {
  can_next : (goal.iterator-loop-index).can_next l.index-iterator;
  is_finite : (goal.iterator-loop-index).is_finite l.index-iterator;
  are_read : AreReadOf l.fn.vars (lines_of l.yielded) l.read.items;
}
