use Rattle.std.proofs.Common.{◌∙◌, ◌+◌, get_or, sym, ap, subst}
use Rattle.std.proofs.lemmas.List.{set-get_or}
use Rattle.reqtable_table.proofs.MarkedAsks.{AreAsked, none_asked, not_asked, is_asked, more_at_end, refused}
use Rattle.reqtable_table.proofs.MarkedAsks.{all_taken, all_more}
use Rattle.reqtable_table.proofs.choosing_by_case.first_rejecting.Goals as goal
use Rattle.reqtable_table.proofs.choosing_by_case.first_rejecting.Goals.{then-marks-index+in-Ok-true, else-marks-index}

pub loop-index-init : goal.loop-index-init
loop-index-init c = none_asked c.args.version.now c.args.marks.now c.args.lines.now

pub returns-in-Ok-false-clause-answer : goal.returns-in-Ok-false-clause-answer
returns-in-Ok-false-clause-answer c =
    sym (refused c.args.version.now c.args.marks.now c.args.lines.now c.loop-index.lines c.loop-index.index
    (get_or c.loop-index.lines c.loop-index.index c.index-lines-index.result) c.requires c.loop-index-test.true
    (ap (get_or c.loop-index.lines c.loop-index.index) c.index-lines-index.is) c.loop-index.invariant
    (sym c.if-marks-index.true) (sym c.in-Ok-false.ensures.answer ∙ c.in-Ok-false.field-0-test))

pub returns-in-Ok-false-clause-more : goal.returns-in-Ok-false-clause-more
returns-in-Ok-false-clause-more c =
    more_at_end c.args.version.now c.args.marks.now c.args.lines.now c.loop-index.lines c.loop-index.index
    (get_or c.loop-index.lines c.loop-index.index c.index-lines-index.result) c.requires c.loop-index-test.true
    (ap (get_or c.loop-index.lines c.loop-index.index) c.index-lines-index.is) c.loop-index.invariant
    c.ask.new.line (sym c.if-marks-index.true) c.ask.ensures.same c.ask.ensures.tests

pub returns-in-Err-clause-more : goal.returns-in-Err-clause-more
returns-in-Err-clause-more c =
    more_at_end c.args.version.now c.args.marks.now c.args.lines.now c.loop-index.lines c.loop-index.index
    (get_or c.loop-index.lines c.loop-index.index c.index-lines-index.result) c.requires c.loop-index-test.true
    (ap (get_or c.loop-index.lines c.loop-index.index) c.index-lines-index.is) c.loop-index.invariant
    c.ask.new.line (sym c.if-marks-index.true) c.ask.ensures.same c.ask.ensures.tests

pub loop-index-preserved : goal.loop-index-preserved
loop-index-preserved c =
    let version = c.args.version.now in
    let marks = c.args.marks.now in
    let lines = c.args.lines.now in
    let now = c.loop-index.lines in
    let i = c.loop-index.index in
    let line = get_or now i c.index-lines-index.result in
    let is = ap (get_or now i) c.index-lines-index.is in
    elim c.if-marks-index.branch [
      | then-marks-index+in-Ok-true w ↦
          subst (λ later. AreAsked version marks lines later (i + 1)) (sym w.lines-is)
          (is_asked version marks lines now i line c.requires c.loop-index-test.true is c.loop-index.invariant
          w.ask.new.line (sym w.if-marks-index.true) w.ask.ensures.same w.ask.ensures.tests
          (sym w.in-Ok-true.ensures.answer ∙ w.in-Ok-true.field-0-test))
      | else-marks-index w ↦
          subst (λ later. AreAsked version marks lines later (i + 1)) (sym (w.lines-is ∙ set-get_or now i c.index-lines-index.result))
          (not_asked version marks lines now i line c.requires c.loop-index-test.true is c.loop-index.invariant
          (sym w.if-marks-index.false))
    ]

pub returns-clause-answer : goal.returns-clause-answer
returns-clause-answer c =
    all_taken c.args.version.now c.args.marks.now c.args.lines.now c.loop-index.lines c.loop-index.index c.requires
    c.loop-index-test.false c.loop-index.invariant

pub returns-clause-more : goal.returns-clause-more
returns-clause-more c =
    all_more c.args.version.now c.args.marks.now c.args.lines.now c.loop-index.lines c.loop-index.index c.requires
    c.loop-index-test.false c.loop-index.invariant
