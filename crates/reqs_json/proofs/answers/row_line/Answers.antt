use Rattle.std.proofs.Common.{◌∙◌, ◌∷◌, ◌++◌, [], All, length, map, ap, sym, subst, append-nil}
use Rattle.std.proofs.lemmas.List.Elements.{All-cons, All-nil}
use Rattle.std.proofs.lemmas.Result.{IfOk-weaker}
use Rattle.reqtable_answer.specs.Answer.{row_text, answer_text}
use Rattle.reqtable_answer.specs.Rows.{row_seen, IsTakenBelow}
use Rattle.reqtable_answer.specs.declared.answer.Row.{Row}
use Rattle.reqs_json.proofs.answers.row_line.Goals as goal

pub text-requires : goal.text-requires
text-requires c =
    let P : Row → Type 0 = λ row. IsTakenBelow (length c.args.candidates.now) row.outcome in
    let one = c.in_ok-push.ensures.items ∙ ap (λ l. l ++ c.args.row ∷ []) c.in_ok-rows.ensures.items in
    subst (All P) (sym one) (All-cons P c.args.row [] c.requires (All-nil P))

pub returns : goal.returns
returns c =
    let candidates = c.args.candidates.now in
    let one = c.in_ok-push.ensures.items ∙ ap (λ l. l ++ c.args.row ∷ []) c.in_ok-rows.ensures.items in
    IfOk-weaker c.text.result _ _
    (λ text h. h ∙ ap (λ rows. answer_text candidates (map row_seen rows)) one
    ∙ append-nil (row_text candidates (row_seen c.args.row)))
    c.text.ensures
