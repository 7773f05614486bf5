use Rattle.std.proofs.Common.{◌≡◌, ◌++◌, List, map, length}
use Rattle.std.specs.List.{AllByRecursion, AllZip}
use Rattle.std.specs.Vec.Iter.{into_iter_items, into_iter_len}
use Rattle.pep508_requirement_text.specs.FrontReading.{Front}
use Rattle.reqtable_candidates.specs.declared.candidates.Candidate.{Candidate}
use Rattle.reqtable_answer.specs.Admission.{Admits}
use Rattle.reqtable_answer.specs.Rows.{row_seen, IsTakenBelow}
use Rattle.reqtable_streaming.specs.Packages.{HasBest}
use Rattle.reqtable_streaming.proofs.Rows.{IsMade}
use Rattle.reqtable_streaming.proofs.selecting.selection_of.Given as goal

abbrev pub invariant-loop-wanted : goal.invariant-loop-wanted
invariant-loop-wanted l = record {
  split : l.yielded ++ into_iter_items l.wanted-iterator ≡ l.fn.packages.items;
  counted : into_iter_len l.wanted-iterator ≡ length (into_iter_items l.wanted-iterator);
  made : (admits : Admits) (all : List Front) (read : List Candidate) → AllByRecursion (HasBest admits all read) l.yielded
      → AllZip (IsMade admits all read l.candidates.items) l.yielded (map row_seen l.rows.items);
  places : AllByRecursion (λ row. IsTakenBelow (length l.candidates.items) row.outcome) (map row_seen l.rows.items);
}
