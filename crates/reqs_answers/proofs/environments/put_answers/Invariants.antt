use Rattle.reqs_answers.specs.Ready.{nodes_in, IsReadyOnRequest}
use Rattle.reqs_answers.proofs.Framed.{GoesOn}
use Rattle.reqs_answers.proofs.environments.put_answers.Given as goal

abbrev pub invariant-loop-place : goal.invariant-loop-place
invariant-loop-place g l = record {
  goes : GoesOn l.query.format (nodes_in l.query) l.query.extras.now l.query.candidates.now l.environments l.fn.run.table l.run.table
      l.place l.run.text.whole;
  ready : IsReadyOnRequest (goal.F-IsAlwaysCallable g l.admission) (goal.F-post g l.admission) l.query l.run;
}
