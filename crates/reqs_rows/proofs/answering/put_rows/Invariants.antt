use Rattle.std.proofs.Common.{◌≤◌, ◌+◌, take}
use Rattle.std.specs.List.{AllZip}
use Rattle.reqtable_answer.specs.Admission.{Admits, AnswersBy}
use Rattle.reqtable_table.specs.Answers.{most_tests_of, SamePackage}
use Rattle.reqtable_table.specs.Counts.{all_tests}
use Rattle.reqs_rows.specs.Asked.{nodes_in, valuation_in, candidates_in, format_in}
use Rattle.reqs_rows.specs.Ready.{IsReadyIn}
use Rattle.reqs_rows.proofs.Going.{PutsUpTo}
use Rattle.reqs_rows.proofs.answering.put_rows.Given as goal

abbrev pub invariant-loop-index : goal.invariant-loop-index
invariant-loop-index g l = record {
  same : AllZip SamePackage l.run.table l.fn.run.table;
  ready : IsReadyIn (goal.F-IsAlwaysCallable g l.admission) (goal.F-post g l.admission) l.asked l.run;
  put : (admits : Admits) → AnswersBy (goal.F-post g l.admission) admits →
      PutsUpTo (format_in l.asked) admits (nodes_in l.asked) (valuation_in l.asked) (candidates_in l.asked)
      (take l.index l.fn.run.table) l.later l.fn.run.text.whole l.run.text.whole;
  tests : all_tests l.run.table ≤ all_tests l.fn.run.table
      + most_tests_of (nodes_in l.asked) (valuation_in l.asked) (candidates_in l.asked) (take l.index l.fn.run.table);
}
