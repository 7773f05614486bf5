-- All is ready for the first answer.
use Rattle.std.proofs.Common.{◌≡◌, ◌∙◌, Bool, List, [], ap, sym, subst}
use Rattle.std.specs.Borrow.{Bor}
use Rattle.std.specs.List.{AllByRecursion}
use Rattle.pep440_version.specs.Record.{VersionRecord}
use Rattle.reqtable_table.specs.Cases.{HasItsCases}
use Rattle.reqtable_table.specs.Kept.{KeptPackage}
use Rattle.reqtable_table.specs.Runs.{RunsRecord, AreRunsOf, AreTold}
use Rattle.reqs_rows.specs.declared.answering.Answering.{Answering}
use Rattle.reqs_rows.specs.declared.row_query.Query.{Query}
use Rattle.reqs_rows.specs.Ready.{IsReadyFor}
use Rattle.reqs_rows.specs.Seen.{pieces_of}
use Rattle.reqs_rows.specs.Texts.{HasSeparator}
use Rattle.reqs_rows.proofs.Going.{none_known}
use Rattle.reqs_answers.specs.Ready.{nodes_in}

pub at_first : (callable : Type 0) (returns : Bor VersionRecord → Bool → Bool → Type 0) (query : Query) (run : Answering)
    (table : List KeptPackage) (runs : RunsRecord) → run.table ≡ table → run.runs ≡ runs → run.known.items ≡ [] →
    HasSeparator run.text.texts → callable → AllByRecursion (HasItsCases (nodes_in query)) table → AreRunsOf table runs →
    AreTold returns table runs → runs.candidates ≡ query.candidates.now → IsReadyFor callable returns query run
at_first callable returns query run table runs same_table same_runs none separated call cases are told selects = record {
  is_callable = call;
  cases = subst (AllByRecursion (HasItsCases (nodes_in query))) (sym same_table) cases;
  runs = subst (λ t. AreRunsOf t run.runs) (sym same_table) (subst (AreRunsOf table) (sym same_runs) are);
  told = subst (λ t. AreTold returns t run.runs) (sym same_table) (subst (AreTold returns table) (sym same_runs) told);
  selects = ap (λ r. r.candidates) same_runs ∙ selects;
  separated = separated;
  known =
      none_known query.format returns (nodes_in query) query.candidates.now run.text.texts run.table (pieces_of run.known.items)
      (ap pieces_of none);
}
