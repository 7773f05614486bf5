use Rattle.std.proofs.Common.{◌≡◌, ◌∙◌, false, map, sym, ap, subst}
use Rattle.std.proofs.lemmas.Result.{IfOk-weaker}
use Rattle.std.specs.List.{flat_map, list_any}
use Rattle.reqtable_range.specs.Together.{lent}
use Rattle.reqtable_cases.specs.Usable.{is_usable, IsRangeOf}
use Rattle.reqtable_table.specs.Kept.{kept_front}
use Rattle.reqtable_table.specs.KeptLines.{lent_lines}
use Rattle.reqtable_table.proofs.Ranging.{some_url, no_url}
use Rattle.reqtable_table.proofs.case_range.range_at.Goals as goal

pub returns-then-has_url : goal.returns-then-has_url
returns-then-has_url c =
    subst (λ own. is_usable (map kept_front own) ≡ false)
    (ap lent_lines c.deref.ensures.value ∙ c.in_ok-own.ensures)
    (some_url c.deref.result.now (sym c.has_url.ensures ∙ c.if-has_url.true))

pub returns : goal.returns
returns c =
    let own = c.in_ok-own.own.items in
    IfOk-weaker c.asked_range.result _ _
    (λ range is. subst (λ own. IsRangeOf (map kept_front own) range) c.in_ok-own.ensures
    (no_url own c.deref-3.result.now range
    (sym (ap (list_any (λ line. line.now.is_url)) c.deref.ensures.value) ∙ sym c.has_url.ensures ∙ c.if-has_url.false)
    (ap lent c.deref-3.ensures.value ∙ c.in_ok-members.ensures
    ∙ ap (λ lines. flat_map (λ line. line.specifiers.members) (lent_lines lines)) c.deref-2.ensures.value) is))
    c.asked_range.ensures
