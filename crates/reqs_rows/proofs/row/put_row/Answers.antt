use Rattle.std.proofs.Common.{◌∙◌, ◌<◌, ◌∷◌, [], Some, None, option_map, length, get_or, ap, sym, subst, refl, append-nil}
use Rattle.std.proofs.Common.{arith, true≢false}
use Rattle.std.proofs.lemmas.Result.{on_ok_weaker}
use Rattle.std.specs.Vec.{with_item}
use Rattle.reqtable_answer.specs.Rows.{row_seen}
use Rattle.reqtable_table.specs.Answers.{LiesIn, IsRowIf}
use Rattle.reqtable_table.specs.Kept.{KeptPackage}
use Rattle.reqtable_table.specs.Standing.{HasItsLines}
use Rattle.reqtable_table.proofs.Same.{all_same}
use Rattle.reqs_json.specs.Rows.{row_in}
use Rattle.reqs_rows.specs.declared.answering.Answering.{Answering}
use Rattle.reqs_rows.specs.declared.known.Known.{Known}
use Rattle.reqs_rows.specs.Asked.{nodes_in, valuation_in, candidates_in, format_in}
use Rattle.reqs_rows.specs.Seen.{pieces_of}
use Rattle.reqs_rows.specs.Texts.{IsKnown}
use Rattle.reqs_rows.proofs.Places.{at_each, on_both, read_at, put_at, put_elsewhere}
use Rattle.reqs_rows.proofs.Putting.{put_known, known_more}
use Rattle.reqs_rows.proofs.Ready.{with_row, no_more}
use Rattle.reqs_rows.proofs.row.put_row.Given as given
use Rattle.reqs_rows.proofs.row.put_row.Goals as goal

no_package : KeptPackage
no_package = record { name = []; cases = []; lines = [] }

pub returns-in_default-clause-put : goal.returns-in_default-clause-put
returns-in_default-clause-put g c = λ admits other by. (
  None,
  subst (LiesIn (nodes_in c.args.asked.now) (valuation_in c.args.asked.now) (get_or c.args.run.now.table c.args.index other))
      c.in_default.is (c.requires.lies other),
  sym (append-nil c.args.run.now.text.whole),
)

pub returns-in_default-clause-kept : goal.returns-in_default-clause-kept
returns-in_default-clause-kept g c = all_same c.args.run.now.table

pub returns-in_err-reach-clause-kept : goal.returns-in_err-reach-clause-kept
returns-in_err-reach-clause-kept g c = all_same c.args.run.now.table

pub returns-in-Some-piece_at-clause-kept : goal.returns-in-Some-piece_at-clause-kept
returns-in-Some-piece_at-clause-kept g c = all_same c.args.run.now.table

pub append-requires : goal.append-requires
append-requires g c =
    let i = c.args.index in
    let place = c.in-Some.place in
    let reached = c.reach.new.known.items in
    let within : i < length reached = omega (arith, c.in_ok-reach.ensures.within, c.reach.new.known.ok.0) in
    let own = read_at (λ (k : Known). k.pieces.items) reached i c.index.result.now [] within c.index.ensures
    ∙ c.in_ok-reach.ensures.same i in
    let e = ap (λ l. get_or l place None) (sym (c.deref.ensures.value ∙ own)) ∙ sym c.in-Some-piece_at.ensures in
    (c.requires.ready.known i no_package c.requires.within place c.in-Some-piece_at.piece e).within

pub returns-in-Some-piece_at-clause-put : goal.returns-in-Some-piece_at-clause-put
returns-in-Some-piece_at-clause-put g c =
    let i = c.args.index in
    let place = c.in-Some.place in
    let nodes = nodes_in c.args.asked.now in
    let v = valuation_in c.args.asked.now in
    let before = c.args.run.now.text in
    let reached = c.reach.new.known.items in
    let within : i < length reached = omega (arith, c.in_ok-reach.ensures.within, c.reach.new.known.ok.0) in
    let own = read_at (λ (k : Known). k.pieces.items) reached i c.index.result.now [] within c.index.ensures
    ∙ c.in_ok-reach.ensures.same i in
    let e = ap (λ l. get_or l place None) (sym (c.deref.ensures.value ∙ own)) ∙ sym c.in-Some-piece_at.ensures in
    on_ok_weaker c.append.result
    (λ h admits other by.
    let kept = get_or c.args.run.now.table i other in
    put_known (format_in c.args.asked.now) (given.F-post g c.args.admission.now) nodes (candidates_in c.args.asked.now) kept v place
    (subst (LiesIn nodes v kept) c.in-Some.is (c.requires.lies other)) before.texts c.in-Some-piece_at.piece
    (c.requires.ready.known i other c.requires.within place c.in-Some-piece_at.piece e) before.whole c.append.new.self.whole h
    admits by)
    c.append.ensures.whole

pub returns-in-Some-piece_at-clause-ready : goal.returns-in-Some-piece_at-clause-ready
returns-in-Some-piece_at-clause-ready g c =
    let format = format_in c.args.asked.now in
    let returns = given.F-post g c.args.admission.now in
    let nodes = nodes_in c.args.asked.now in
    let candidates = candidates_in c.args.asked.now in
    let i = c.args.index in
    let run = c.args.run.now in
    let ready = c.requires.ready in
    let same = c.in_ok-reach.ensures.same in
    let after : Answering = record {
      table = run.table;
      runs = run.runs;
      known = c.reach.new.known;
      text = c.append.new.self;
    } in
    let own = get_or (pieces_of c.reach.new.known.items) i [] in
    on_ok_weaker c.append.result
    (λ h. with_row _ returns format nodes candidates run after i (all_same run.table) ready.runs ready.told refl
    (no_more run.text.texts c.append.new.self.texts c.append.ensures.kept)
    (λ other.
    let kept = get_or run.table i other in
    subst (λ texts. IsKnown format returns nodes candidates texts kept own) (sym c.append.ensures.kept)
    (subst (IsKnown format returns nodes candidates run.text.texts kept) (sym (same i)) (ready.known i other c.requires.within)))
    (λ at differs. same at) ready)
    c.append.ensures.whole

pub returns-in_default-row-clause-ready : goal.returns-in_default-row-clause-ready
returns-in_default-row-clause-ready g c =
    let format = format_in c.args.asked.now in
    let returns = given.F-post g c.args.admission.now in
    let nodes = nodes_in c.args.asked.now in
    let candidates = candidates_in c.args.asked.now in
    let i = c.args.index in
    let run = c.args.run.now in
    let ready = c.requires.ready in
    let same = c.in_ok-reach.ensures.same in
    let after : Answering = record {
      table = c.row_among.new.table;
      runs = c.row_among.new.runs;
      known = c.reach.new.known;
      text = run.text;
    } in
    with_row _ returns format nodes candidates run after i c.row_among.ensures.kept c.row_among.ensures.runs
    c.row_among.ensures.told c.row_among.ensures.candidates (no_more run.text.texts run.text.texts refl)
    (λ other.
    subst (IsKnown format returns nodes candidates run.text.texts (get_or run.table i other)) (sym (same i))
    (ready.known i other c.requires.within))
    (λ at differs. same at) ready

pub returns-in_default-row-clause-put : goal.returns-in_default-row-clause-put
returns-in_default-row-clause-put g c = λ admits other by.
    let nodes = nodes_in c.args.asked.now in
    let v = valuation_in c.args.asked.now in
    let kept = get_or c.args.run.now.table c.args.index other in
    let lies = subst (LiesIn nodes v kept) c.in-Some.is (c.requires.lies other) in
    let none = subst (λ r. IsRowIf admits nodes v c.args.run.now.runs.candidates kept (option_map row_seen r)) c.in_default-row.is
    (c.in_ok-row.ensures.row admits other by) in
    absurd (true≢false (sym lies.asked ∙ none))

pub returns-clause-put : goal.returns-clause-put
returns-clause-put g c =
    let nodes = nodes_in c.args.asked.now in
    let v = valuation_in c.args.asked.now in
    let candidates = candidates_in c.args.asked.now in
    on_ok_weaker c.put_new.result
    (λ h admits other by.
    let kept = get_or c.args.run.now.table c.args.index other in (
      Some (row_seen c.in-Some-row.row),
      subst (λ r. IsRowIf admits nodes v candidates kept (option_map row_seen r)) c.in-Some-row.is
          (subst (λ cs. IsRowIf admits nodes v cs kept (option_map row_seen c.in_ok-row.row)) c.requires.ready.selects
          (c.in_ok-row.ensures.row admits other by)),
      h,
    ))
    c.put_new.ensures.whole

pub returns-clause-ready : goal.returns-clause-ready
returns-clause-ready g c =
    let format = format_in c.args.asked.now in
    let returns = given.F-post g c.args.admission.now in
    let nodes = nodes_in c.args.asked.now in
    let v = valuation_in c.args.asked.now in
    let candidates = candidates_in c.args.asked.now in
    let i = c.args.index in
    let place = c.in-Some.place in
    let run = c.args.run.now in
    let ready = c.requires.ready in
    let reached = c.reach.new.known.items in
    let same = c.in_ok-reach.ensures.same in
    let within : i < length reached = omega (arith, c.in_ok-reach.ensures.within, c.reach.new.known.ok.0) in
    let read = read_at (λ (k : Known). k.pieces.items) reached i c.index_mut.result.now [] within c.index_mut.ensures.value
    ∙ same i in
    let own : Known = record { pieces = c.put_new.new.own } in
    let here = put_at (λ (k : Known). k.pieces.items) reached i own [] within in
    let row = row_seen c.in-Some-row.row in
    let texts = c.put_new.new.pieces.texts in
    let after : Answering = record {
      table = c.row_among.new.table;
      runs = c.row_among.new.runs;
      known = with_item c.reach.new.known i own;
      text = c.put_new.new.pieces;
    } in
    on_both c.put_new.result
    (λ grown there. with_row _ returns format nodes candidates run after i c.row_among.ensures.kept c.row_among.ensures.runs
    c.row_among.ensures.told c.row_among.ensures.candidates (row_in format candidates row ∷ [], grown)
    (λ other.
    let kept = get_or run.table i other in
    subst (IsKnown format returns nodes candidates texts kept) (sym here)
    (known_more format returns nodes candidates kept v place (subst (LiesIn nodes v kept) c.in-Some.is (c.requires.lies other))
    (at_each HasItsLines run.table i other c.requires.lines c.requires.within) row
    (λ admits by. (subst (λ r. IsRowIf admits nodes v candidates kept (option_map row_seen r)) c.in-Some-row.is
    (subst (λ cs. IsRowIf admits nodes v cs kept (option_map row_seen c.in_ok-row.row)) ready.selects
    (c.in_ok-row.ensures.row admits other by))).1)
    run.text.texts texts grown c.index_mut.result.now.pieces.items c.put_new.new.own.items
    (subst (IsKnown format returns nodes candidates run.text.texts kept) (sym read) (ready.known i other c.requires.within))
    there))
    (λ at differs. put_elsewhere (λ (k : Known). k.pieces.items) reached i own [] at differs ∙ same at) ready)
    c.put_new.ensures.texts c.put_new.ensures.known
