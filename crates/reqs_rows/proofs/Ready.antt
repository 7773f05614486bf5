-- What holds while environments are answered goes on to hold.
use Rattle.std.proofs.Common.{◌≡◌, ◌≢◌, ◌∙◌, ℕ, Bool, List, [], get_or, append-nil, sym}
use Rattle.std.specs.Borrow.{Bor}
use Rattle.std.specs.List.{AllZip}
use Rattle.pep440_version.specs.Record.{VersionRecord}
use Rattle.pep508_tree.specs.Meaning.{NodeRecord}
use Rattle.reqtable_candidates.specs.declared.candidates.Candidate.{Candidate}
use Rattle.reqtable_table.specs.Answers.{SamePackage}
use Rattle.reqtable_table.specs.Kept.{KeptPackage}
use Rattle.reqtable_table.specs.Runs.{AreRunsOf, AreTold}
use Rattle.reqtable_table.proofs.Same.{has_cases}
use Rattle.reqs_json.specs.declared.format.Format.{Format}
use Rattle.reqs_pieces.specs.Pieces.{PiecesRecord}
use Rattle.reqs_rows.specs.declared.answering.Answering.{Answering}
use Rattle.reqs_rows.specs.Ready.{IsReady}
use Rattle.reqs_rows.specs.Seen.{pieces_of}
use Rattle.reqs_rows.specs.Texts.{IsKnown, Grow}
use Rattle.reqs_rows.proofs.Going.{are_known_grown, are_known_more, are_known_same, separated_grown}

-- pieces are added to the text
pub with_text : (callable : Type 0) (returns : Bor VersionRecord → Bool → Bool → Type 0) (format : Format)
    (nodes : List NodeRecord) (candidates : List Candidate) (run : Answering) (text : PiecesRecord) →
    Grow run.text.texts text.texts → IsReady callable returns format nodes candidates run
    → IsReady callable returns format nodes candidates (record run { text = text })
with_text callable returns format nodes candidates run text grow ready = record {
  is_callable = ready.is_callable;
  cases = ready.cases;
  runs = ready.runs;
  told = ready.told;
  selects = ready.selects;
  separated = separated_grown run.text.texts text.texts grow ready.separated;
  known =
      are_known_grown format returns nodes candidates run.table run.text.texts text.texts grow (pieces_of run.known.items)
      ready.known;
}

-- nothing is added
pub no_more : (old new : List (List ℕ)) → new ≡ old → Grow old new
no_more old new same = ([], same ∙ sym (append-nil old))

-- the package at an index was asked, and the pieces of its rows are known
pub with_row : (callable : Type 0) (returns : Bor VersionRecord → Bool → Bool → Type 0) (format : Format)
    (nodes : List NodeRecord) (candidates : List Candidate) (run new : Answering) (i : ℕ) →
    AllZip SamePackage new.table run.table → AreRunsOf new.table new.runs → AreTold returns new.table new.runs →
    new.runs.candidates ≡ run.runs.candidates → Grow run.text.texts new.text.texts →
    ((other : KeptPackage) → IsKnown format returns nodes candidates new.text.texts (get_or run.table i other)
    (get_or (pieces_of new.known.items) i []))
    → ((at : ℕ) → at ≢ i → get_or (pieces_of new.known.items) at [] ≡ get_or (pieces_of run.known.items) at [])
    → IsReady callable returns format nodes candidates run → IsReady callable returns format nodes candidates new
with_row callable returns format nodes candidates run new i same are told kept grow here others ready =
    let texts = new.text.texts in
    let own = pieces_of new.known.items in
    let before = pieces_of run.known.items in
    record {
      is_callable = ready.is_callable;
      cases = has_cases nodes new.table run.table same ready.cases;
      runs = are;
      told = told;
      selects = kept ∙ ready.selects;
      separated = separated_grown run.text.texts texts grow ready.separated;
      known =
          are_known_same format returns nodes candidates new.table run.table same texts own
          (are_known_more format returns nodes candidates run.table run.text.texts texts grow before own i here others ready.known);
    }
