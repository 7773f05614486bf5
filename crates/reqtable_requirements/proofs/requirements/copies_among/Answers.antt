use Rattle.std.proofs.Common.{◌∙◌, ◌+◌, map, take, ap, sym, subst}
use Rattle.std.specs.List.{AllZip}
use Rattle.reqtable_requirements.specs.Copies.{IsLineCopy, lines_among}
use Rattle.reqtable_requirements.proofs.Among.{copied_one, passed_one}
use Rattle.reqtable_requirements.proofs.requirements.copies_among.Goals as goal
use Rattle.reqtable_requirements.proofs.requirements.copies_among.Goals.{then-is_among+in_ok-try_clone+in_ok-push}
use Rattle.reqtable_requirements.proofs.requirements.copies_among.Goals.{else-is_among}

pub loop-line-preserved : goal.loop-line-preserved
loop-line-preserved c =
    let names = map (λ name. name.now) c.args.names.now in
    let lines = c.args.lines.now in
    let i = c.loop-line.line-index in
    let line = c.line-item.result in
    let before = c.loop-line.copies.items in
    elim c.if-is_among.branch [
      | then-is_among+in_ok-try_clone+in_ok-push w ↦
          subst (λ copies. AllZip IsLineCopy copies (lines_among names (take (i + 1) lines)))
          (sym (ap (λ copies. copies.items) w.copies-is ∙ w.in_ok-push.ensures.items))
          (copied_one names lines before i line w.in_ok-try_clone.field-0 c.loop-line-test.true c.line-item.is
          (sym c.is_among.ensures ∙ w.if-is_among.true) c.loop-line.invariant w.in_ok-try_clone.ensures)
      | else-is_among w ↦
          subst (λ copies. AllZip IsLineCopy copies.items (lines_among names (take (i + 1) lines))) (sym w.copies-is)
          (passed_one names lines before i line c.loop-line-test.true c.line-item.is
          (sym c.is_among.ensures ∙ w.if-is_among.false) c.loop-line.invariant)
    ]
