use Rattle.std.proofs.Common.{◌∙◌, ◌<◌, Some, None, map, find, option_map, sym, ap, subst, rules}
use Rattle.std.specs.Option.{IfSome}
use Rattle.reqtable_candidates.specs.Ordered.{placed_seen}
use Rattle.reqtable_answer.specs.Asks.{may_be_taken}
use Rattle.reqtable_table.specs.Choosing.{case_asks}
use Rattle.reqtable_table.proofs.AskedLines.{records, same_all}
use Rattle.reqtable_table.proofs.MarkedAsks.{urls_asked}
use Rattle.reqtable_table.proofs.Numbered.{range_marked}
use Rattle.reqtable_table.proofs.Telling.{none_long}
use Rattle.reqtable_table.proofs.Own.{direct_first, found_first}
use Rattle.reqtable_table.proofs.row.outcome.Goals as goal

pub returns-then-any_marked-clause-outcome : goal.returns-then-any_marked-clause-outcome
returns-then-any_marked-clause-outcome g c = λ admits by.
    let marks = c.args.marks.now in
    let lines = c.args.lines.now in
    direct_first admits (case_asks marks (records lines)) (map placed_seen c.args.own.now)
    (sym (urls_asked marks lines) ∙ sym (c.any_marked.ensures (λ line. line.is_url) (λ line answer h. search rules)) ∙ c.if-any_marked.true)

pub returns-then-any_marked-clause-kept : goal.returns-then-any_marked-clause-kept
returns-then-any_marked-clause-kept g c = same_all (records c.args.lines.now)

pub returns-then-len-eq0-clause-outcome : goal.returns-then-len-eq0-clause-outcome
returns-then-len-eq0-clause-outcome g c = λ admits by.
    let marks = c.args.marks.now in
    let lines = c.args.lines.now in
    let run = map placed_seen c.args.own.now in
    found_first admits (case_asks marks (records lines)) run None
    (sym (urls_asked marks lines) ∙ sym (c.any_marked.ensures (λ line. line.is_url) (λ line answer h. search rules)) ∙ c.if-any_marked.false)
    (sym (ap (λ own. option_map (λ x. x.0) (find (may_be_taken admits (case_asks marks (records lines))) (map placed_seen own)))
    (none_long c.args.own.now (sym c.len.ensures ∙ c.if-len-eq0.true))))

pub returns-then-len-eq0-clause-kept : goal.returns-then-len-eq0-clause-kept
returns-then-len-eq0-clause-kept g c = same_all (records c.args.lines.now)

pub chosen-requires-clause-range : goal.chosen-requires-clause-range
chosen-requires-clause-range g c =
    range_marked c.args.marks.now (records c.args.lines.now) c.deref.result.now c.in_ok-range.range c.requires.rising
    (c.deref.ensures.value ∙ c.in_ok-numbers.ensures ∙ c.requires.asked.numbers) c.in_ok-range.ensures

pub returns-in_err-numbers-clause-kept : goal.returns-in_err-numbers-clause-kept
returns-in_err-numbers-clause-kept g c = same_all (records c.args.lines.now)

pub returns-in_err-range-clause-kept : goal.returns-in_err-range-clause-kept
returns-in_err-range-clause-kept g c = same_all (records c.args.lines.now)

pub returns-in-Ok-Some-clause-outcome : goal.returns-in-Ok-Some-clause-outcome
returns-in-Ok-Some-clause-outcome g c = λ admits by.
    let marks = c.args.marks.now in
    let lines = c.args.lines.now in
    found_first admits (case_asks marks (records lines)) (map placed_seen c.args.own.now) (Some c.in-Ok-Some.place)
    (sym (urls_asked marks lines) ∙ sym (c.any_marked.ensures (λ line. line.is_url) (λ line answer h. search rules)) ∙ c.if-any_marked.false)
    (sym c.in-Ok-Some.field-0-is ∙ c.in-Ok-Some.ensures.chosen admits by)

pub returns-in-Ok-Some-clause-below : goal.returns-in-Ok-Some-clause-below
returns-in-Ok-Some-clause-below g c = λ count below.
    subst (λ found. IfSome found (λ place. place < count)) c.in-Ok-Some.field-0-is (c.in-Ok-Some.ensures.below count below)

pub returns-in-Ok-None-clause-outcome : goal.returns-in-Ok-None-clause-outcome
returns-in-Ok-None-clause-outcome g c = λ admits by.
    let marks = c.args.marks.now in
    let lines = c.args.lines.now in
    found_first admits (case_asks marks (records lines)) (map placed_seen c.args.own.now) None
    (sym (urls_asked marks lines) ∙ sym (c.any_marked.ensures (λ line. line.is_url) (λ line answer h. search rules)) ∙ c.if-any_marked.false)
    (sym c.in-Ok-None.field-0-is ∙ c.in-Ok-None.ensures.chosen admits by)
