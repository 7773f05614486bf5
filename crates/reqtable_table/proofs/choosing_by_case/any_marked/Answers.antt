use Rattle.std.proofs.Common.{◌∙◌, refl, sym}
use Rattle.reqtable_table.proofs.MarkedAsks.{any_none, any_found}
use Rattle.reqtable_table.proofs.choosing_by_case.any_marked.Goals as goal
use Rattle.reqtable_table.proofs.choosing_by_case.any_marked.Goals.{else-marks-index-via-then-marks-index+else-test}
use Rattle.reqtable_table.proofs.choosing_by_case.any_marked.Goals.{else-marks-index-via-else-marks-index}

pub returns-then-test : goal.returns-then-test
returns-then-test g c = λ says by.
    sym (any_found says c.args.marks.now c.args.lines.now c.loop-index.index _ c.index-lines-index.result
    c.requires.marks c.loop-index-test.true (sym c.if-marks-index.true) c.index-lines-index.is (c.loop-index.invariant says by) refl
    (sym (by _ _ c.test.ensures) ∙ c.if-test.true))

pub loop-index-preserved : goal.loop-index-preserved
loop-index-preserved g c = λ says by.
    let marks = c.args.marks.now in
    let lines = c.args.lines.now in
    let i = c.loop-index.index in
    let line = c.index-lines-index.result in
    let none = c.loop-index.invariant says by in
    elim c.else-marks-index.branch [
      | else-marks-index-via-then-marks-index+else-test w ↦
          any_none says marks lines i _ line c.requires.marks c.loop-index-test.true (sym w.if-marks-index.true)
          c.index-lines-index.is none (sym (by _ _ w.test.ensures) ∙ w.if-test.false)
      | else-marks-index-via-else-marks-index w ↦
          any_none says marks lines i _ line c.requires.marks c.loop-index-test.true (sym w.if-marks-index.false)
          c.index-lines-index.is none refl
    ]
