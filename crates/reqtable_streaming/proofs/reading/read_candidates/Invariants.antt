use Rattle.std.proofs.Common.{◌≡◌, List, Ok}
use Rattle.std.specs.List.{AllByRecursion}
use Rattle.pep508_requirement_text.specs.FrontReading.{Front}
use Rattle.reqtable_candidates.specs.TextLines.{each_line}
use Rattle.reqtable_candidates.specs.Candidates.{candidate_at}
use Rattle.reqtable_candidates.specs.declared.candidates.Candidate.{Candidate}
use Rattle.reqtable_candidates.proofs.Lines.{lines_of}
use Rattle.reqtable_answer.specs.Admission.{Admits, AnswersBy}
use Rattle.reqtable_streaming.specs.Packages.{AreSound, IsNew, names_of}
use Rattle.reqtable_streaming.proofs.Best.{KeepsBest}
use Rattle.reqtable_streaming.proofs.reading.read_candidates.Given as goal

abbrev pub invariant-loop-index : goal.invariant-loop-index
invariant-loop-index g l = record {
  can_next : (goal.iterator-loop-index g).can_next l.index-iterator;
  is_finite : (goal.iterator-loop-index g).is_finite l.index-iterator;
  names : names_of l.packages.items ≡ names_of l.fn.packages.items;
  sound : AreSound l.packages.items;
  read : (candidates : List Candidate) × (each_line candidate_at (lines_of l.yielded) ≡ Ok candidates)
      × ((admits : Admits) (all : List Front) → AnswersBy (goal.F-post g l.fn.admission) admits
      → AllByRecursion (IsNew all) l.fn.packages.items → AllByRecursion (KeepsBest admits all candidates) l.packages.items);
}
