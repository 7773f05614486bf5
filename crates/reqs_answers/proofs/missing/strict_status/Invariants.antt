use Rattle.std.proofs.Common.{◌≡◌, List}
use Rattle.std.specs.List.{AllZip}
use Rattle.reqtable_requirements.specs.LineReading.{LineRecord}
use Rattle.reqtable_table.specs.Answers.{SamePackage}
use Rattle.reqtable_table.specs.Kept.{KeepsAll}
use Rattle.reqs_answers.specs.Ready.{nodes_in, IsReadyOnRequest}
use Rattle.reqs_answers.proofs.AskedRows.{AreAsked}
use Rattle.reqs_answers.proofs.missing.strict_status.Given as goal

abbrev pub invariant-loop-environment : goal.invariant-loop-environment
invariant-loop-environment g l = record {
  same : AllZip SamePackage l.run.table l.fn.run.table;
  text : l.run.text ≡ l.fn.run.text;
  ready : IsReadyOnRequest (goal.F-IsAlwaysCallable g l.admission) (goal.F-post g l.admission) l.query l.run;
  asked : (said : List LineRecord) → KeepsAll (nodes_in l.query) l.fn.run.table said →
      AreAsked l.query.extras.now said l.query.candidates.now l.environments l.environment-index l.found;
}
