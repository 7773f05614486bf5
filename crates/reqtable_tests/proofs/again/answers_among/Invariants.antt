use Rattle.std.proofs.Common.{◌≡◌, List, [], map, take}
use Rattle.std.specs.List.{AllZip}
use Rattle.pep508_evaluation.specs.Valuations.{valuation_of}
use Rattle.reqtable_answer.specs.Admission.{Admits, AnswersBy}
use Rattle.reqtable_answer.specs.Answer.{IsAnswer}
use Rattle.reqtable_answer.specs.Rows.{row_seen}
use Rattle.reqtable_requirements.specs.Asks.{asks_of}
use Rattle.reqtable_requirements.specs.LineReading.{LineRecord}
use Rattle.reqtable_table.specs.Kept.{KeepsAll}
use Rattle.reqtable_table.specs.Lasting.{StillServes}
use Rattle.reqtable_table.specs.Runs.{AreRunsOf, AreTold}
use Rattle.reqtable_tests.proofs.again.answers_among.Given as goal

abbrev pub invariant-loop-environment : goal.invariant-loop-environment
invariant-loop-environment g l = record {
  serves : StillServes l.interner.nodes l.interner.nodes l.fn.table l.table;
  are : AreRunsOf l.table l.runs;
  told : AreTold (goal.F-post g l.admission) l.table l.runs;
  candidates : l.runs.candidates ≡ l.candidates;
  answers : (said : List LineRecord) (admits : Admits) → KeepsAll l.interner.nodes l.fn.table said →
      AnswersBy (goal.F-post g l.admission) admits →
      AllZip (λ environment answer. IsAnswer admits (asks_of (valuation_of environment l.extras) said) l.candidates
      (map row_seen answer.rows.items)) (take l.environment-index l.environments) l.answers.items;
}
