use Rattle.std.proofs.Common.{◌≡◌, ◌∙◌, ◌∷◌, ◌++◌, [], Some, get_or, inl, inr, ap, sym}
use Rattle.std.proofs.lemmas.List.{get_or_at}
use Rattle.std.proofs.lemmas.Result.{on_ok_weaker}
use Rattle.reqtable_answer.specs.Rows.{row_seen}
use Rattle.reqs_json.specs.Rows.{row_in}
use Rattle.reqs_rows.specs.Asked.{candidates_in, format_in}
use Rattle.reqs_rows.proofs.row.put_new.Goals as goal

pub returns-clause-whole : goal.returns-clause-whole
returns-clause-whole c =
    let text = row_in (format_in c.args.asked.now) (candidates_in c.args.asked.now) (row_seen c.args.row) in
    let before = c.args.pieces.now in
    let added = c.in_ok-piece.ensures in
    let texts : c.add.new.self.texts ≡ before.texts ++ text ∷ [] =
    added.kept ∙ ap (λ t. before.texts ++ t ∷ []) c.in_ok-text.ensures in
    on_ok_weaker c.append.result
    (λ h. h ∙ ap (λ w. w ++ get_or c.add.new.self.texts c.in_ok-piece.piece []) added.whole
    ∙ ap (λ t. before.whole ++ t) (ap (λ l. get_or l c.in_ok-piece.piece []) texts
    ∙ get_or_at before.texts text [] [] c.in_ok-piece.piece (sym added.named)))
    c.append.ensures.whole

pub returns-clause-texts : goal.returns-clause-texts
returns-clause-texts c =
    let before = c.args.pieces.now in
    on_ok_weaker c.append.result
    (λ h. c.append.ensures.kept ∙ c.in_ok-piece.ensures.kept ∙ ap (λ t. before.texts ++ t ∷ []) c.in_ok-text.ensures)
    c.append.ensures.whole

pub returns-clause-kept : goal.returns-clause-kept
returns-clause-kept c =
    on_ok_weaker c.append.result (λ h. c.in_ok-keep.ensures.kept ∙ ap (λ n. Some n) c.in_ok-piece.ensures.named)
    c.append.ensures.whole

pub returns-clause-known : goal.returns-clause-known
returns-clause-known c =
    on_ok_weaker c.append.result
    (λ h at found e. elim (c.in_ok-keep.ensures.known at found e) [
      | inl both ↦ inl (both.0, sym c.in_ok-piece.ensures.named ∙ both.1)
      | inr before ↦ inr before
    ])
    c.append.ensures.whole
