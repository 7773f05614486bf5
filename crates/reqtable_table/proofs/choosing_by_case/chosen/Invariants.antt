use Rattle.std.proofs.Common.{◌≡◌, ◌-◌, None, find, length, map, take}
use Rattle.reqtable_candidates.specs.Ordered.{placed_seen}
use Rattle.reqtable_answer.specs.Admission.{Admits, AnswersBy}
use Rattle.reqtable_answer.specs.Asks.{may_be_taken}
use Rattle.reqtable_table.specs.Answers.{most_tests}
use Rattle.reqtable_table.specs.Choosing.{case_asks, AskedMore}
use Rattle.reqtable_table.specs.Sieving.{Knows}
use Rattle.reqtable_table.proofs.AskedLines.{records}
use Rattle.reqtable_table.proofs.choosing_by_case.chosen.Given as goal

abbrev pub invariant-loop-at : goal.invariant-loop-at
invariant-loop-at g l = record {
  more : AskedMore (most_tests (case_asks l.marks (records l.fn.lines)) (map placed_seen (take l.at l.own)))
      (records l.lines) (records l.fn.lines);
  knows : Knows (case_asks l.marks (records l.fn.lines)) l.asking;
  none : (admits : Admits) → AnswersBy (goal.F-post g l.admission) admits →
      find (may_be_taken admits (case_asks l.marks (records l.fn.lines))) (map placed_seen (take l.at l.own)) ≡ None;
}

abbrev pub decreases-loop-at : goal.decreases-loop-at
decreases-loop-at g l = length l.own - l.at
