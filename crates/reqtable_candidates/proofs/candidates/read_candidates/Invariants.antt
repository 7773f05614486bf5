use Rattle.std.proofs.Common.{◌≡◌, Ok}
use Rattle.reqtable_candidates.specs.TextLines.{each_line}
use Rattle.reqtable_candidates.specs.Candidates.{candidate_at}
use Rattle.reqtable_candidates.proofs.Lines.{lines_of}
use Rattle.reqtable_candidates.proofs.candidates.read_candidates.Given as goal

abbrev pub invariant-loop-index : goal.invariant-loop-index
invariant-loop-index l = (goal.iterator-loop-index).can_next l.index-iterator
    × (goal.iterator-loop-index).is_finite l.index-iterator
    × (each_line candidate_at (lines_of l.yielded) ≡ Ok l.read.items)
