use Rattle.std.proofs.Common.{All, map, take, length}
use Rattle.reqtable_answer.specs.Admission.{Admits, AnswersBy}
use Rattle.reqtable_answer.specs.Rows.{row_seen, IsTakenBelow}
use Rattle.reqtable_table.specs.Answers.{AreRowsFor}
use Rattle.reqtable_table.specs.Owns.{runs_of}
use Rattle.reqtable_table.specs.Runs.{AreTold}
use Rattle.reqtable_marker_cache.specs.Known.{AreKnown}
use Rattle.reqtable_marker_cache.specs.Settings.{nodes_in, valuation_in}
use Rattle.reqtable_table.proofs.Rows.{kept_records, AreAnswered}
use Rattle.reqtable_table.proofs.row.rows_of.Given as goal

abbrev pub invariant-loop-index : goal.invariant-loop-index
invariant-loop-index g l = record {
  so_far : AreAnswered (nodes_in l.setting) (valuation_in l.setting) l.ordered.candidates l.fn.packages l.packages l.index;
  told : AreTold (goal.F-post g l.admission) (kept_records l.packages) (runs_of l.ordered l.runs l.told);
  known : AreKnown (nodes_in l.setting) (valuation_in l.setting) l.known;
  rows : (admits : Admits) → AnswersBy (goal.F-post g l.admission) admits →
      AreRowsFor admits (nodes_in l.setting) (valuation_in l.setting) l.ordered.candidates
      (kept_records (take l.index l.fn.packages)) (map row_seen l.rows.items);
  places : All (λ row. IsTakenBelow (length l.ordered.candidates) row.outcome) l.rows.items;
}
