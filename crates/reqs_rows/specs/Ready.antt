-- What holds while environments are answered one after another.
use Rattle.std.specs.Prelude.{◌≡◌, Bool, List}
use Rattle.std.specs.List.{AllByRecursion}
use Rattle.std.specs.Borrow.{Bor}
use Rattle.pep440_version.specs.Record.{VersionRecord}
use Rattle.pep508_tree.specs.Meaning.{NodeRecord}
use Rattle.reqtable_candidates.specs.declared.candidates.Candidate.{Candidate}
use Rattle.reqtable_table.specs.Cases.{HasItsCases}
use Rattle.reqtable_table.specs.Runs.{AreRunsOf, AreTold}
use Rattle.reqs_json.specs.declared.format.Format.{Format}
use Rattle.reqs_rows.specs.declared.answering.Answering.{Answering}
use Rattle.reqs_rows.specs.declared.row_query.Asked.{Asked}
use Rattle.reqs_rows.specs.declared.row_query.Query.{Query}
use Rattle.reqs_rows.specs.Asked.{nodes_in, candidates_in, format_in}
use Rattle.reqs_rows.specs.Seen.{pieces_of}
use Rattle.reqs_rows.specs.Texts.{AreKnown, HasSeparator}

-- a test of admission may be called; the table has the cases of the interner's trees, and the runs are its
-- packages' candidates, with outcomes decided by this test; and the text has a separator, and pieces that are
-- the rows which are known
pub record IsReady (callable : Type 0) (returns : Bor VersionRecord → Bool → Bool → Type 0)
    (format : Format) (nodes : List NodeRecord) (candidates : List Candidate) (run : Answering)
    : Type 0 where
  pub is_callable : callable
  pub cases : AllByRecursion (HasItsCases nodes) run.table
  pub runs : AreRunsOf run.table run.runs
  pub told : AreTold returns run.table run.runs
  pub selects : run.runs.candidates ≡ candidates
  pub separated : HasSeparator run.text.texts
  pub known : AreKnown format returns nodes candidates run.text.texts run.table (pieces_of run.known.items)

-- the candidates of a table's packages and the outcomes decided so far serve it still
pub record KeepsRuns (returns : Bor VersionRecord → Bool → Bool → Type 0) (before run : Answering)
    : Type 0 where
  pub candidates : run.runs.candidates ≡ before.runs.candidates
  pub runs : AreRunsOf run.table run.runs
  pub told : AreTold returns run.table run.runs

abbrev pub IsReadyFor : Type 0 → (Bor VersionRecord → Bool → Bool → Type 0) → Query → Answering → Type 0
IsReadyFor callable returns query =
    IsReady callable returns query.format query.interner.now.nodes query.candidates.now

abbrev pub IsReadyIn : Type 0 → (Bor VersionRecord → Bool → Bool → Type 0) → Asked → Answering → Type 0
IsReadyIn callable returns asked =
    IsReady callable returns (format_in asked) (nodes_in asked) (candidates_in asked)
