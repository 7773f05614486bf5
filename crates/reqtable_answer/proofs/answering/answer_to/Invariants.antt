use Rattle.std.proofs.Common.{◌≡◌, map, length}
use Rattle.std.specs.List.{AllByRecursion}
use Rattle.std.specs.Map.Iter.{deref_pair}
use Rattle.reqtable_answer.specs.Admission.{Admits, AnswersBy}
use Rattle.reqtable_answer.specs.Answer.{IsRow}
use Rattle.reqtable_answer.specs.Rows.{row_seen, IsTakenBelow}
use Rattle.reqtable_answer.specs.Says.{asks_seen}
use Rattle.reqtable_answer.proofs.Packages.{names}
use Rattle.reqtable_answer.proofs.answering.answer_to.Given as goal

abbrev pub invariant-loop-entry : goal.invariant-loop-entry
invariant-loop-entry g l = record {
  names : map (λ row. row.name) (map row_seen l.rows.items) ≡ names (map deref_pair l.yielded);
  rows : (admits : Admits) → AnswersBy (goal.F-post g l.fn.admission) admits
      → AllByRecursion (IsRow admits (asks_seen l.fn.asks) l.fn.candidates) (map row_seen l.rows.items);
  places : AllByRecursion (λ row. IsTakenBelow (length l.fn.candidates) row.outcome) (map row_seen l.rows.items);
}
